-- The samples hold, by computation. Assumes nothing.
use mathlib.Core.Path.{refl}
use Rattle.basics.specs.Written.{written}
use Rattle.text.specs.Ascii.{ascii}
use Rattle.text.specs.Decimal.{digits, decimal}
use Rattle.text.specs.Samples.{Granted, Decimals, Filled, Places}

pub granted : Granted
unfolding ascii
granted = refl

pub decimals : Decimals
unfolding ascii decimal digits
decimals = refl

pub filled : Filled
unfolding ascii written
filled = refl

pub places : Places
unfolding ascii
places = refl
