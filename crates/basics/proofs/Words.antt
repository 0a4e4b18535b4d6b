-- A word made of two numbers, and taken apart again (specs/Word.antt). Assumes nothing.
use native.Mathlib.Omega.{arith}
use mathlib.Core.Path.{refl}
use Rattle.basics.specs.Word.{WordOfBoth, BothOfWord, WordsAre, LowersAre}

pub word_of_both : WordOfBoth
word_of_both w = omega arith

pub both_of_word : BothOfWord
both_of_word u l fits = (omega arith, omega arith)

pub words_are : WordsAre
words_are = (refl, refl, refl, refl)

pub lowers_are : LowersAre
lowers_are = (refl, refl, omega arith)
