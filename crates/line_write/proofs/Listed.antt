-- What a loop asks for that goes through the signers, one after the other. Assumes nothing.
use Prim.Native.Nat.{ℕ}
use mathlib.Core.Path.{◌≡◌, sym, ap, ◌∙◌}
use mathlib.Core.List.{List, [], ◌∷◌, ◌++◌, map, append_assoc, append-nil}
use denote.Ref.{Bor}
use Rattle.std.proofs.lemmas.List.{map-append}
use Rattle.text.specs.Ascii.{ascii}
use Rattle.text.specs.Decimal.{decimal}
use Rattle.line.specs.RecordLine.{listed}

-- one number after a blank
abbrev pub after_blank : ℕ → List ℕ
after_blank k = ascii " " ++ decimal k

-- One number more stands after those before it.
listed_last : (ks : List ℕ) (k : ℕ) → listed (ks ++ (k ∷ [])) ≡ listed ks ++ after_blank k
unfolding listed
listed_last [] k = append-nil (after_blank k)
listed_last (a ∷ ks) k =
    ap (λ (r : List ℕ). after_blank a ++ r) (listed_last ks k)
    ∙ sym (append_assoc (after_blank a) (listed ks) (after_blank k))

-- what stands for the signers that a loop has gone through
abbrev pub gone_through : List (Bor ℕ) → List ℕ
gone_through yielded = listed (map (λ (signer : Bor ℕ). signer.now) yielded)

-- One signer more stands after those before it.
pub gone_through_more : (yielded : List (Bor ℕ)) (signer : Bor ℕ)
    → gone_through (yielded ++ (signer ∷ [])) ≡ gone_through yielded ++ after_blank signer.now
gone_through_more yielded signer =
    ap listed (map-append (λ (s : Bor ℕ). s.now) yielded (signer ∷ []))
    ∙ listed_last (map (λ (s : Bor ℕ). s.now) yielded) signer.now
