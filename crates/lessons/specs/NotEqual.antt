-- Exchange files that are refused because there is nothing to be found: one table of the samples in which a statement
-- of one list has no proof from the other, each with a model in which all of the other list is true and that statement
-- is false. For Figure 1. Proved in proofs/NotEqual.antt, by computation and by `NoProof` (logic/specs/Figure1.antt).
-- Assumes nothing.
use Rattle.std.specs.Prelude.{ℕ, true, ◌≡◌, ◌⊎◌, List, [], ◌∷◌, map}
use Prim.Native.String.{String}
use Rattle.basics.specs.Membership.{◌∈◌, ◌⊆◌}
use Rattle.text.specs.Ascii.{ascii}
use Rattle.file.specs.Words.{file_of}
use Rattle.logic.specs.Proposition.{Proposition, atom, false, ◌implies◌, ◌and◌, ◌says◌}
use Rattle.logic.specs.Figure1.{HasProof, EqualInForce}
use Rattle.logic.specs.Countermodels.{Supposition, suppose, refutes}
use Rattle.exchange.specs.Verdict.{Equal}
use Rattle.exchange.specs.Layout.{first_list, second_list}
use Rattle.exchange.specs.Figure1.{exchange_answer}
use Rattle.demands.specs.OldReleases.{spelled_in}
use Rattle.demands.specs.Samples.{line_of, an_exchange}

-- A statement of the second list has no proof from the first, or one of the first has none from the second.
pub data Direction : Type 0 where
  forth back : Direction

-- a sample's name, its line and its words, what its lists spell, and which statement has no proof
pub record Lists : Type 0 where
  pub name : String
  pub line : String
  pub words : List ℕ
  pub first : List Proposition
  pub second : List Proposition
  pub direction : Direction
  pub missing : Proposition

abbrev pub lists : String → String → List ℕ → List Proposition → List Proposition → Direction → Proposition → Lists
lists name line words first second direction missing = record {
  name = name;
  line = line;
  words = words;
  first = first;
  second = second;
  direction = direction;
  missing = missing;
}

-- the list from which it has none, and the list in which it stands
abbrev pub from : Direction → Lists → List Proposition
from forth x = x.first
from back x = x.second

abbrev pub stands_in : Direction → Lists → List Proposition
stands_in forth x = x.second
stands_in back x = x.first

-- and the model that refutes it
pub record RefutedLists : Type 0 where
  pub lists : Lists
  pub model : Supposition

abbrev pub ◌by◌ : Lists → Supposition → RefutedLists
◌by◌ x m = record { lists = x; model = m }

infix 75 ◌by◌
abbrev pub refuted_lists : List RefutedLists
refuted_lists =
    lists "L.exchange" "refused 12 place 0\n"
    (1 ∷ 0 ∷ 1 ∷ 1 ∷ 0 ∷ 0 ∷ 0 ∷ 0 ∷ [])
    []
    (atom 0 ∷ [])
    forth (atom 0) by suppose [] []
    ∷ lists "no-steps.exchange" "refused 9 place 0\n"
    (1 ∷ 0 ∷ 1 ∷ 0 ∷ 0 ∷ 0 ∷ 0 ∷ [])
    []
    (atom 0 ∷ [])
    forth (atom 0) by suppose [] []
    ∷ lists "lab-says-sound.exchange" "refused 14 place 0\n"
    (3 ∷ 1 ∷ 1 ∷ 5 ∷ 0 ∷ 20487 ∷ 20488 ∷ 0 ∷ 0 ∷ 0 ∷ 1 ∷ 0 ∷ 45057 ∷ 0 ∷ 40960 ∷ 4096 ∷ 0 ∷ [])
    (7 says atom 0 ∷ [])
    (atom 0 ∷ [])
    forth (atom 0) by suppose [] (7 ∷ [])
    ∷ lists "sound-and-lab-says-sound.exchange" "refused 14 place 3\n"
    (3 ∷ 1 ∷ 1 ∷ 5 ∷ 0 ∷ 20487 ∷ 20488 ∷ 0 ∷ 0 ∷ 0 ∷ 0 ∷ 1 ∷ 40960 ∷ 4096 ∷ 0 ∷ 45057 ∷ 0 ∷ [])
    (atom 0 ∷ [])
    (7 says atom 0 ∷ [])
    back (atom 0) by suppose [] (7 ∷ [])
    ∷ lists "another-foremans-word.exchange" "refused 14 place 1\n"
    (3 ∷ 1 ∷ 1 ∷ 8 ∷ 0 ∷ 20487 ∷ 20488 ∷ 0 ∷ 0 ∷ 0 ∷ 1 ∷ 2 ∷ 40960 ∷ 45057 ∷ 4096 ∷ 0 ∷ 40960 ∷ 45058 ∷ 4096 ∷ 0
    ∷ [])
    (7 says atom 0 ∷ [])
    (8 says atom 0 ∷ [])
    forth (8 says atom 0) by suppose [] (7 ∷ [])
    ∷ lists "false-said-by-another.exchange" "refused 14 place 4\n"
    (5 ∷ 1 ∷ 2 ∷ 9 ∷ 0 ∷ 4096 ∷ 20487 ∷ 20487 ∷ 20488 ∷ 0 ∷ 0 ∷ 1 ∷ 0 ∷ 0 ∷ 2 ∷ 2 ∷ 4 ∷ 40960 ∷ 45058 ∷ 16385
    ∷ 40960 ∷ 45058 ∷ 16385 ∷ 40960 ∷ 45058 ∷ 16385 ∷ [])
    (7 says false ∷ [])
    (7 says false ∷ 8 says atom 0 ∷ [])
    forth (8 says atom 0) by suppose [] (7 ∷ [])
    ∷ lists "false-said-is-not-false.exchange" "refused 14 place 0\n"
    (5 ∷ 1 ∷ 1 ∷ 3 ∷ 0 ∷ 4096 ∷ 20487 ∷ 20487 ∷ 20488 ∷ 0 ∷ 0 ∷ 1 ∷ 0 ∷ 0 ∷ 2 ∷ 1 ∷ 45058 ∷ 16385 ∷ 16385 ∷ [])
    (7 says false ∷ [])
    (false ∷ [])
    forth false by suppose [] (7 ∷ [])
    ∷ lists "paper-twice-for-two.exchange" "refused 14 place 6\n"
    (4 ∷ 2 ∷ 1 ∷ 19 ∷ 0 ∷ 20487 ∷ 20488 ∷ 12289 ∷ 0 ∷ 0 ∷ 0 ∷ 2 ∷ 1 ∷ 1 ∷ 3 ∷ 20480 ∷ 40960 ∷ 45057 ∷ 4096 ∷ 0
    ∷ 40960 ∷ 45057 ∷ 4096 ∷ 0 ∷ 24579 ∷ 40960 ∷ 45057 ∷ 4096 ∷ 0 ∷ 24579 ∷ 40960 ∷ 45057 ∷ 4096 ∷ 0 ∷ [])
    (7 says atom 0 ∷ 7 says atom 0 ∷ [])
    ((7 says atom 0 and 8 says atom 0) ∷ [])
    forth (7 says atom 0 and 8 says atom 0) by suppose [] (7 ∷ [])
    ∷ lists "order-that-does-not-follow.exchange" "refused 12 place 15\n"
    (6 ∷ 2 ∷ 2 ∷ 18 ∷ 0 ∷ 1 ∷ 2 ∷ 8192 ∷ 8193 ∷ 8192 ∷ 0 ∷ 0 ∷ 0 ∷ 1 ∷ 2 ∷ 2 ∷ 3 ∷ 4 ∷ 3 ∷ 5 ∷ 8192 ∷ 12291 ∷ 0
    ∷ 1 ∷ 8192 ∷ 12291 ∷ 0 ∷ 12292 ∷ 1 ∷ 2 ∷ 8192 ∷ 12291 ∷ 0 ∷ 1 ∷ 8192 ∷ 12292 ∷ 1 ∷ 2 ∷ [])
    ((atom 0 implies atom 1) ∷ (atom 1 implies atom 2) ∷ [])
    ((atom 0 implies atom 1) ∷ (atom 0 implies atom 2) ∷ [])
    back (atom 1 implies atom 2) by suppose (1 ∷ []) []
    ∷ lists "three-halls-wrong-fold.exchange" "refused 14 place 29\n"
    (17 ∷ 8 ∷ 3 ∷ 83 ∷ 0 ∷ 1 ∷ 2 ∷ 3 ∷ 20487 ∷ 20488 ∷ 20489 ∷ 8196 ∷ 8197 ∷ 12288 ∷ 8201 ∷ 12292 ∷ 8203 ∷ 12295
    ∷ 8193 ∷ 8192 ∷ 8198 ∷ 0 ∷ 0 ∷ 0 ∷ 0 ∷ 0 ∷ 1 ∷ 2 ∷ 0 ∷ 1 ∷ 1 ∷ 3 ∷ 5 ∷ 3 ∷ 8 ∷ 3 ∷ 14 ∷ 3 ∷ 7 ∷ 8 ∷ 10 ∷ 7
    ∷ 12 ∷ 13 ∷ 15 ∷ 16 ∷ 7 ∷ 10 ∷ 16 ∷ 8192 ∷ 12295 ∷ 40960 ∷ 45060 ∷ 4096 ∷ 0 ∷ 0 ∷ 8192 ∷ 24585 ∷ 12298
    ∷ 20480 ∷ 0 ∷ 1 ∷ 3 ∷ 8192 ∷ 12304 ∷ 40960 ∷ 45062 ∷ 4096 ∷ 2 ∷ 3 ∷ 8192 ∷ 12295 ∷ 40960 ∷ 45060 ∷ 4096 ∷ 0
    ∷ 0 ∷ 8192 ∷ 45061 ∷ 1 ∷ 8192 ∷ 24585 ∷ 12298 ∷ 20480 ∷ 0 ∷ 1 ∷ 3 ∷ 8192 ∷ 12295 ∷ 40960 ∷ 45060 ∷ 4096 ∷ 0
    ∷ 0 ∷ 8192 ∷ 24587 ∷ 12295 ∷ 40960 ∷ 45060 ∷ 4096 ∷ 0 ∷ 12298 ∷ 20480 ∷ 0 ∷ 45061 ∷ 1 ∷ 3 ∷ 20480 ∷ 8192
    ∷ 12295 ∷ 40960 ∷ 45060 ∷ 4096 ∷ 0 ∷ 0 ∷ 8192 ∷ 45061 ∷ 1 ∷ 8192 ∷ 8192 ∷ 12298 ∷ 20480 ∷ 0 ∷ 1 ∷ 3 ∷ 8192
    ∷ 12304 ∷ 40960 ∷ 45062 ∷ 4096 ∷ 2 ∷ 3 ∷ [])
    ((7 says atom 0 implies atom 0) ∷ (8 says atom 1 implies atom 1) ∷ ((atom 0 and atom 1) implies atom 3)
    ∷ (7 says atom 0 implies atom 0) ∷ ((7 says atom 0 and 8 says atom 1) implies atom 3)
    ∷ ((7 says atom 0 implies atom 0) and (8 says atom 1 implies atom 1))
    ∷ (atom 0 implies (atom 1 implies atom 3)) ∷ (9 says atom 2 implies atom 3) ∷ [])
    ((7 says atom 0 implies atom 0) ∷ ((atom 0 and atom 1) implies atom 3) ∷ (9 says atom 2 implies atom 3) ∷ [])
    back (8 says atom 1 implies atom 1) by suppose [] (8 ∷ [])
    ∷ lists "three-halls-waste-left-out.exchange" "refused 12 place 89\n"
    (17 ∷ 8 ∷ 3 ∷ 95 ∷ 0 ∷ 1 ∷ 2 ∷ 3 ∷ 20487 ∷ 20488 ∷ 20489 ∷ 8196 ∷ 8197 ∷ 12288 ∷ 8201 ∷ 12292 ∷ 8203 ∷ 12295
    ∷ 8193 ∷ 8192 ∷ 8198 ∷ 0 ∷ 0 ∷ 0 ∷ 0 ∷ 0 ∷ 1 ∷ 2 ∷ 0 ∷ 1 ∷ 1 ∷ 3 ∷ 5 ∷ 3 ∷ 8 ∷ 3 ∷ 14 ∷ 3 ∷ 7 ∷ 8 ∷ 10 ∷ 7
    ∷ 12 ∷ 13 ∷ 15 ∷ 16 ∷ 7 ∷ 8 ∷ 10 ∷ 8192 ∷ 12295 ∷ 40960 ∷ 45060 ∷ 4096 ∷ 0 ∷ 0 ∷ 8192 ∷ 12296 ∷ 40960
    ∷ 45061 ∷ 4096 ∷ 1 ∷ 1 ∷ 8192 ∷ 24585 ∷ 12298 ∷ 20480 ∷ 0 ∷ 1 ∷ 3 ∷ 8192 ∷ 12295 ∷ 40960 ∷ 45060 ∷ 4096 ∷ 0
    ∷ 0 ∷ 8192 ∷ 12296 ∷ 40960 ∷ 45061 ∷ 4096 ∷ 1 ∷ 1 ∷ 8192 ∷ 24585 ∷ 12298 ∷ 20480 ∷ 0 ∷ 1 ∷ 3 ∷ 8192 ∷ 12295
    ∷ 40960 ∷ 45060 ∷ 4096 ∷ 0 ∷ 0 ∷ 8192 ∷ 24587 ∷ 12295 ∷ 40960 ∷ 45060 ∷ 4096 ∷ 0 ∷ 12296 ∷ 40960 ∷ 45061
    ∷ 4096 ∷ 1 ∷ 12298 ∷ 20480 ∷ 0 ∷ 1 ∷ 3 ∷ 20480 ∷ 8192 ∷ 12295 ∷ 40960 ∷ 45060 ∷ 4096 ∷ 0 ∷ 0 ∷ 8192 ∷ 12296
    ∷ 40960 ∷ 45061 ∷ 4096 ∷ 1 ∷ 1 ∷ 8192 ∷ 8192 ∷ 12298 ∷ 20480 ∷ 0 ∷ 1 ∷ 3 ∷ 8192 ∷ 12304 ∷ 40960 ∷ 45062
    ∷ 4096 ∷ 2 ∷ 3 ∷ [])
    ((7 says atom 0 implies atom 0) ∷ (8 says atom 1 implies atom 1) ∷ ((atom 0 and atom 1) implies atom 3)
    ∷ (7 says atom 0 implies atom 0) ∷ ((7 says atom 0 and 8 says atom 1) implies atom 3)
    ∷ ((7 says atom 0 implies atom 0) and (8 says atom 1 implies atom 1))
    ∷ (atom 0 implies (atom 1 implies atom 3)) ∷ (9 says atom 2 implies atom 3) ∷ [])
    ((7 says atom 0 implies atom 0) ∷ (8 says atom 1 implies atom 1) ∷ ((atom 0 and atom 1) implies atom 3) ∷ [])
    back (9 says atom 2 implies atom 3) by suppose [] (9 ∷ [])
    ∷ []

-- The table tells what the program prints for the files, and what they spell,
pub record ListsAre : Type 0 where
  pub lines : map (λ x. line_of (an_exchange x.lists.words)) refuted_lists ≡ map (λ x. ascii x.lists.line) refuted_lists
  pub first :
      map (λ x. spelled_in (file_of x.lists.words) (first_list (file_of x.lists.words))) refuted_lists
      ≡ map (λ x. x.lists.first) refuted_lists
  pub second :
      map (λ x. spelled_in (file_of x.lists.words) (second_list (file_of x.lists.words))) refuted_lists
      ≡ map (λ x. x.lists.second) refuted_lists

-- each statement stands in the one list, and its model refutes it from the other.
abbrev pub StandsThere : Type 0
StandsThere = (x : RefutedLists) → x ∈ refuted_lists → x.lists.missing ∈ stands_in x.lists.direction x.lists

abbrev pub ModelsRefuteLists : Type 0
ModelsRefuteLists =
    map (λ x. refutes x.model (from x.lists.direction x.lists) x.lists.missing) refuted_lists
    ≡ map (λ x. true) refuted_lists

-- No steps at all: no exchange file with A in one list, and in the other no other statements than these, is found
-- equal, whatever its table, its lists besides and its steps are.
abbrev pub NeverEqual : List Proposition → Proposition → Type 0
NeverEqual Γ A =
    (file : List ℕ)
    → ((spelled_in file (first_list file) ⊆ Γ) × (A ∈ spelled_in file (second_list file)))
    ⊎ ((spelled_in file (second_list file) ⊆ Γ) × (A ∈ spelled_in file (first_list file)))
    → ¬ (exchange_answer file ≡ Equal)

pub record NothingToBeFound (x : Lists) : Type 0 where
  pub no_proof : ¬ HasProof (from x.direction x) x.missing
  pub not_in_force : ¬ EqualInForce x.first x.second
  pub never_equal : NeverEqual (from x.direction x) x.missing

abbrev pub NeverInForce : Type 0
NeverInForce = (x : RefutedLists) → x ∈ refuted_lists → NothingToBeFound x.lists
