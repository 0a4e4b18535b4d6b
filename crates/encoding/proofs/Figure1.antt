-- The promises for Figure 1 (specs/Figure1.antt): those for every test on principals, at "the same K". Assumes nothing.
use Rattle.logic.specs.Figure1.{Same}
use Rattle.steps.specs.Figure1.{same}
use Rattle.steps.proofs.Figure1.{same_lawful}
use Rattle.encoding.specs.Figure1.{EncodedIsRecord, EveryProofHasARecord, ReleasedExactly, EncodedIsExchange, EveryExchangeHasAFile, ExchangedExactly}
use Rattle.encoding.proofs.Record as Record
use Rattle.encoding.proofs.Released as Released
use Rattle.encoding.proofs.Exchange as Exchange
use Rattle.encoding.proofs.Exchanged as Exchanged

pub encoded_is_record : EncodedIsRecord
encoded_is_record = Record.encoded_is_record same Same same_lawful.decides

pub every_proof_has_a_record : EveryProofHasARecord
every_proof_has_a_record = Record.every_proof_has_a_record same Same same_lawful.decides

pub released_exactly : ReleasedExactly
released_exactly = Released.released_exactly same Same same_lawful.decides

pub encoded_is_exchange : EncodedIsExchange
encoded_is_exchange = Exchange.encoded_is_exchange same Same same_lawful.decides

pub every_exchange_has_a_file : EveryExchangeHasAFile
every_exchange_has_a_file = Exchange.every_exchange_has_a_file same Same same_lawful.decides

pub exchanged_exactly : ExchangedExactly
exchanged_exactly = Exchanged.exchanged_exactly same Same same_lawful.decides
