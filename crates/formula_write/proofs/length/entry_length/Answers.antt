-- `length::entry_length` meets its contract, kind by kind. Assumes nothing.
use Rattle.std.proofs.Common.{◌≡◌, refl, sym, ap, ◌∙◌, ⊎_elim, List}
use Rattle.text.specs.Ascii.{ascii}
use Rattle.text.specs.Decimal.{decimal}
use Rattle.logic.specs.Proposition.{Proposition}
use Rattle.table.specs.declared.entry.Entry.{Entry}
use Rattle.table.specs.Spelled.{among, proposition}
use Rattle.sentences.specs.Formula.{principal_text, proposition_text}
use Rattle.formula_write.specs.Length.{length_of}
use Rattle.formula_write.proofs.Lengths.{length_counted, length_brackets}
use Rattle.formula_write.proofs.length.entry_length.Goals as goal

-- the length of an entry's text, where its kind is known
kind_length : (made : List Proposition) {e x : Entry} → e ≡ x → length_of (proposition made x)
    ≡ length_of (proposition made e)
kind_length made is = ap (λ (x : Entry). length_of (proposition made x)) (sym is)

pub returns-in-Atom : goal.returns-in-Atom
unfolding ascii proposition_text length_of
returns-in-Atom c made e =
    length_counted (ascii "a") (decimal c.in-Atom.a.0) c.decimal_length.ensures c.sum.ensures
    ∙ kind_length made c.in-Atom.is

pub returns-in-False : goal.returns-in-False
unfolding ascii proposition_text length_of
returns-in-False c made e = ⊎_elim (kind_length made) (kind_length made) c.in-False.is

pub returns-in-Implies : goal.returns-in-Implies
unfolding ascii proposition_text length_of
returns-in-Implies c made e =
    length_brackets (proposition_text (among made c.in-Implies.a.0)) (ascii " implies ")
    (proposition_text (among made c.in-Implies.b.0)) 11 refl
    refl refl (c.operands_length.ensures made e) c.sum-in-Implies.ensures
    ∙ kind_length made c.in-Implies.is

pub returns-in-And : goal.returns-in-And
unfolding ascii proposition_text length_of
returns-in-And c made e =
    length_brackets (proposition_text (among made c.in-And.a.0)) (ascii " and ")
    (proposition_text (among made c.in-And.b.0)) 7 refl
    refl refl (c.operands_length-in-And.ensures made e) c.sum-in-And.ensures
    ∙ kind_length made c.in-And.is

pub returns-in-Or : goal.returns-in-Or
unfolding ascii proposition_text length_of
returns-in-Or c made e =
    length_brackets (proposition_text (among made c.in-Or.a.0)) (ascii " or ")
    (proposition_text (among made c.in-Or.b.0)) 6 refl
    refl refl (c.operands_length-in-Or.ensures made e) c.sum-in-Or.ensures
    ∙ kind_length made c.in-Or.is

pub returns-in-Says : goal.returns-in-Says
unfolding ascii proposition_text length_of
returns-in-Says c made e =
    length_brackets (principal_text c.in-Says.k.0) (ascii " says ") (proposition_text (among made c.in-Says.a.0)) 8
    refl
    c.principal_length.ensures (c.formula_length.ensures made e)
    c.sum-in-Says.ensures c.sum-in-Says-2.ensures
    ∙ kind_length made c.in-Says.is
