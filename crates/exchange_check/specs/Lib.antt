-- What the private functions of the exchange check answer: the parts of `exchange_answer` (exchange/specs/Answer.antt).
pub mod Parts
