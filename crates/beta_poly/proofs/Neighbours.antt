-- The steps of a loop that takes items in order from the front: e is the sum of the run so far.
use Rattle.std.specs.Prelude.{◌≡◌, ◌+◌, ℕ, suc, List, [], ◌∷◌, ◌++◌, length}
use Rattle.std.proofs.Common.{refl, sym, ap, ◌∙◌, arith, Equal}
use Rattle.exact_algebra.specs.Ring.{Semiring, ZeroTest}
use Rattle.exact_algebra.specs.Formal.{Keys, Formal, strip_at}
use Rattle.beta_poly.proofs.Gathered.{run, gathered, gather_start, gather_same, gather_next, gather_end}

module _ (K : Keys) (R : Semiring) (Z : ZeroTest R) where
  -- an item, or nothing where its value is 0
  abbrev kept_of : K.carrier × R.carrier → Formal K R
  kept_of e = strip_at K R Z (Z.is_zero e.1) e []

  pub run_start : (all items out : Formal K R) (e : K.carrier × R.carrier) → all ≡ e ∷ items → out ≡ [] → out ++ run K R Z e items ≡ gathered K R Z all
  run_start all items out e h o =
      ap (λ r. r ++ run K R Z e items) o ∙ gather_start K R Z (e ∷ items) e refl ∙ sym (ap (gathered K R Z) h)

  pub run_same : (out items next m : Formal K R) (e d : K.carrier × R.carrier) (s : R.carrier) → items ≡ d ∷ next → K.cmp e.0 d.0 ≡ Equal → s ≡ R.add e.1 d.1 → out ++ run K R Z e items ≡ m → out ++ run K R Z (e.0, s) next ≡ m
  run_same out items next m e d s hi o hs h =
      ap (λ x. out ++ run K R Z (e.0, x) next) hs
      ∙ gather_same K R Z (d ∷ next) out m 0 e d refl (ap (λ r. out ++ run K R Z e r) (sym hi) ∙ h) o

  pub run_next : (out new items next m : Formal K R) (e d : K.carrier × R.carrier) → items ≡ d ∷ next → (K.cmp e.0 d.0 ≡ Equal → ⊥) → new ≡ out ++ kept_of e → out ++ run K R Z e items ≡ m → new ++ run K R Z d next ≡ m
  run_next out new items next m e d hi n hn h =
      ap (λ r. r ++ run K R Z d next) hn
      ∙ gather_next K R Z (d ∷ next) out m 0 e d refl (ap (λ r. out ++ run K R Z e r) (sym hi) ∙ h) n

  pub run_end : (out new items m : Formal K R) (e : K.carrier × R.carrier) → items ≡ [] → new ≡ out ++ kept_of e → out ++ run K R Z e items ≡ m → new ≡ m
  run_end out new items m e hi hn h =
      hn ∙ gather_end K R Z [] out m 0 e (omega arith) (ap (λ r. out ++ run K R Z e r) (sym hi) ∙ h)

-- ---- how many are left

pub counted_none : {A : Type 0} (xs : List A) (n : ℕ) → n ≡ length xs → n ≡ 0 → xs ≡ []
counted_none [] n h z = refl
counted_none (x ∷ xs) n h z = absurd (omega arith)

pub counted_step : {A : Type 0} (xs ys : List A) (x : A) (m n : ℕ) → m ≡ length xs → xs ≡ x ∷ ys → n + 1 ≡ m → n ≡ length ys
counted_step xs ys x m n h e k = let l : length xs ≡ suc (length ys) = ap length e in omega arith
