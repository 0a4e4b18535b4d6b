-- Figure 1 itself: "the same K" for code 11, and "A proof is a derivation in Figure 1" (demand 2). The promises of
-- Record.antt and Exchange.antt, so fixed. Proved in proofs/Figure1.antt. Assumes nothing.
use Rattle.logic.specs.Figure1.{Same}
use Rattle.steps.specs.Figure1.{same}
use Rattle.encoding.specs.Record as Record
use Rattle.encoding.specs.Exchange as Exchange

-- ---- records

abbrev pub EncodedIsRecord : Type 0
EncodedIsRecord = Record.EncodedIsRecord same Same

abbrev pub EveryProofHasARecord : Type 0
EveryProofHasARecord = Record.EveryProofHasARecord same Same

abbrev pub ReleasedExactly : Type 0
ReleasedExactly = Record.ReleasedExactly same Same

-- ---- exchange files

abbrev pub EncodedIsExchange : Type 0
EncodedIsExchange = Exchange.EncodedIsExchange same Same

abbrev pub EveryExchangeHasAFile : Type 0
EveryExchangeHasAFile = Exchange.EveryExchangeHasAFile same Same

abbrev pub ExchangedExactly : Type 0
ExchangedExactly = Exchange.ExchangedExactly same Same
