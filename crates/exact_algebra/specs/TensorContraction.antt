-- Tensors of any rank as formal sums whose keys are lists of places, and their contraction along links: the sum over the
-- pairs of entries and the links that meet is the plain sum over the links, at every key.
use Rattle.std.specs.Prelude.{◌≡◌, ◌≤◌, ℕ, zero, suc, List, [], ◌∷◌, ◌++◌, length, get_or}
use Rattle.std.specs.List.{insert, remove}
use Rattle.std.specs.Cmp.Lexicographic.{slice_cmp}
use Rattle.std.specs.Ordering.{nat_cmp, ordering_then}
use Rattle.std.proofs.Common.{refl, sym, ap, ap₂, ◌∙◌, arith, Ordering, Equal}
use Rattle.std.proofs.lemmas.Cmp.{nat_list_cmp_total, tied_itself, nat_cmp_total}
use mathlib.Core.Path.{fun_ext}
use Rattle.exact_algebra.specs.Ring.{Semiring}
use Rattle.exact_algebra.specs.Sums.{sum, where_equal, Each, sum-same, sum-same_on, sum-mul, sum_mul_sum, sum-swap, nat_equal}
use Rattle.exact_algebra.specs.Formal.{Keys, Formal, coefficient}
use Rattle.exact_algebra.specs.Kronecker.{then_equal, where_then, where_mul, mul_where, where_same}

-- lists of places in lexicographic order
abbrev pub places_cmp : List ℕ → List ℕ → Ordering
places_cmp = slice_cmp nat_cmp

pub places_equal : (a b : List ℕ) → places_cmp a b ≡ Equal → a ≡ b
places_equal [] [] h = refl
places_equal [] (y ∷ ys) h = cc
places_equal (x ∷ xs) [] h = cc
places_equal (x ∷ xs) (y ∷ ys) h =
    let both = then_equal (nat_cmp x y) (places_cmp xs ys) h in
    λ i. nat_equal x y both.0 i ∷ places_equal xs ys both.1 i

-- lists of places as keys
abbrev pub places_keys : Keys
places_keys = record { carrier = List ℕ; cmp = places_cmp; total = nat_list_cmp_total; equal = places_equal }

places_same : (a b : List ℕ) → a ≡ b → places_cmp a b ≡ Equal
places_same a b e = ap (places_cmp a) (sym e) ∙ tied_itself nat_list_cmp_total a

nat_same : (a b : ℕ) → a ≡ b → nat_cmp a b ≡ Equal
nat_same a b e = ap (nat_cmp a) (sym e) ∙ tied_itself nat_cmp_total a

then_both : (o r : Ordering) → o ≡ Equal → r ≡ Equal → ordering_then o r ≡ Equal
then_both o r e f = ap₂ ordering_then e f

-- a key whose place p is x, and the rest is ks
inserted : (ks : List ℕ) (p x : ℕ) (key : List ℕ) → p ≤ length ks → length key ≡ suc (length ks) → insert ks p x ≡ key → (x ≡ get_or key p 0) × (ks ≡ remove key p)
inserted ks zero x [] l m e = absurd (omega arith)
inserted ks zero x (y ∷ ys) l m e = (cc, cc)
inserted [] (suc p) x key l m e = absurd (omega arith)
inserted (k ∷ ks) (suc p) x [] l m e = absurd (omega arith)
inserted (k ∷ ks) (suc p) x (y ∷ ys) l m e =
    let rest = inserted ks p x ys (omega arith) (omega arith) (cc) in
    let first : k ≡ y = cc in
    (rest.0, λ i. first i ∷ rest.1 i)

removed : (p : ℕ) (key : List ℕ) → suc p ≤ length key → insert (remove key p) p (get_or key p 0) ≡ key
removed p [] l = absurd (omega arith)
removed zero (y ∷ ys) l = refl
removed (suc p) (y ∷ ys) l = ap (λ r. y ∷ r) (removed p ys (omega arith))

module _ (R : Semiring) where
  open R use {carrier as C, zero as 𝟘, add as ◌⊕◌, mul as ◌⊗◌}

  infixl 6 ◌⊕◌
  infixl 7 ◌⊗◌
  where_key : (ks : List ℕ) (p x : ℕ) (key : List ℕ) (c : C) → p ≤ length ks → length key ≡ suc (length ks) → where_equal R (places_cmp (insert ks p x) key) c ≡ where_equal R (nat_cmp x (get_or key p 0)) (where_equal R (places_cmp ks (remove key p)) c)
  where_key ks p x key c l m =
      where_same R (places_cmp (insert ks p x) key) (ordering_then (nat_cmp x (get_or key p 0)) (places_cmp ks (remove key p))) c there back
      ∙ where_then R (nat_cmp x (get_or key p 0)) (places_cmp ks (remove key p)) c
    where
      there : places_cmp (insert ks p x) key ≡ Equal → ordering_then (nat_cmp x (get_or key p 0)) (places_cmp ks (remove key p)) ≡ Equal
      there h =
          let parts = inserted ks p x key l m (places_equal (insert ks p x) key h) in
          then_both (nat_cmp x (get_or key p 0)) (places_cmp ks (remove key p)) (nat_same x (get_or key p 0) parts.0) (places_same ks (remove key p) parts.1)

      back : ordering_then (nat_cmp x (get_or key p 0)) (places_cmp ks (remove key p)) ≡ Equal → places_cmp (insert ks p x) key ≡ Equal
      back h =
          let parts = then_equal (nat_cmp x (get_or key p 0)) (places_cmp ks (remove key p)) h in
          places_same (insert ks p x) key (ap₂ (λ js y. insert js p y) (places_equal ks (remove key p) parts.1) (nat_equal x (get_or key p 0) parts.0) ∙ removed p key (omega arith))

  where_joined : (ks js ls ms : List ℕ) (c : C) → length ks ≡ length js → where_equal R (places_cmp (ks ++ ls) (js ++ ms)) c ≡ where_equal R (places_cmp ks js) (where_equal R (places_cmp ls ms) c)
  where_joined [] [] ls ms c h = refl
  where_joined [] (j ∷ js) ls ms c h = absurd (omega arith)
  where_joined (k ∷ ks) [] ls ms c h = absurd (omega arith)
  where_joined (k ∷ ks) (j ∷ js) ls ms c h =
      where_then R (nat_cmp k j) (places_cmp (ks ++ ls) (js ++ ms)) c ∙ ap (where_equal R (nat_cmp k j)) (where_joined ks js ls ms c (omega arith))
      ∙ sym (where_then R (nat_cmp k j) (places_cmp ks js) (where_equal R (places_cmp ls ms) c))

  -- entries (key, value), in any order and with repeats
  abbrev pub Tensor : Type 0
  Tensor = Formal places_keys R

  -- a link joins the place .0 to the place .1 with the weight .2
  abbrev pub Links : Type 0
  Links = List (ℕ × ℕ × C)

  -- the value at a key, 0 where no entry has it
  abbrev pub value_at : Tensor → List ℕ → C
  value_at T key = coefficient places_keys R T key

  -- the plain sum: leg p of A joined to leg q of B, at the other legs ks of A and ls of B
  abbrev pub joined_at : ℕ → ℕ → Links → Tensor → Tensor → List ℕ → List ℕ → C
  joined_at p q links A B ks ls =
      sum R links (λ l. l.2 ⊗ (value_at A (insert ks p l.0) ⊗ value_at B (insert ls q l.1)))

  -- what two entries and a link give at a key
  abbrev pub link_at : ℕ → ℕ → List ℕ × C → List ℕ × C → ℕ × ℕ × C → List ℕ → C
  link_at p q a b l key =
      where_equal R (nat_cmp l.0 (get_or a.0 p 0)) (where_equal R (nat_cmp l.1 (get_or b.0 q 0)) (where_equal R (places_cmp key (remove a.0 p ++ remove b.0 q)) (l.2 ⊗ (a.1 ⊗ b.1))))

  inward : (o r s t : Ordering) (k c d : C) → k ⊗ (where_equal R o (where_equal R s c) ⊗ where_equal R r (where_equal R t d)) ≡ where_equal R o (where_equal R r (where_equal R s (where_equal R t (k ⊗ (c ⊗ d)))))
  inward o r s t k c d =
      ap (λ x. k ⊗ x) (where_mul R o (where_equal R s c) (where_equal R r (where_equal R t d)) ∙ ap (where_equal R o) (mul_where R r (where_equal R s c) (where_equal R t d) ∙ ap (where_equal R r) (where_mul R s c (where_equal R t d) ∙ ap (where_equal R s) (mul_where R t c d))))
      ∙ mul_where R o k (where_equal R r (where_equal R s (where_equal R t (c ⊗ d))))
      ∙ ap (where_equal R o) (mul_where R r k (where_equal R s (where_equal R t (c ⊗ d))) ∙ ap (where_equal R r) (mul_where R s k (where_equal R t (c ⊗ d)) ∙ ap (where_equal R s) (mul_where R t k (c ⊗ d))))

  -- the keys of an entry of each taken apart into the linked leg and the other legs
  one_triple : (p q : ℕ) (ks ls : List ℕ) (a b : List ℕ × C) (l : ℕ × ℕ × C) → p ≤ length ks → q ≤ length ls → length a.0 ≡ suc (length ks) → length b.0 ≡ suc (length ls) → l.2 ⊗ (where_equal R (places_cmp (insert ks p l.0) a.0) a.1 ⊗ where_equal R (places_cmp (insert ls q l.1) b.0) b.1) ≡ link_at p q a b l (ks ++ ls)
  one_triple p q ks ls a b l hp hq ha hb =
      ap₂ (λ x y. l.2 ⊗ (x ⊗ y)) (where_key ks p l.0 a.0 a.1 hp ha) (where_key ls q l.1 b.0 b.1 hq hb)
      ∙ inward (nat_cmp l.0 (get_or a.0 p 0)) (nat_cmp l.1 (get_or b.0 q 0)) (places_cmp ks (remove a.0 p)) (places_cmp ls (remove b.0 q)) l.2 a.1 b.1
      ∙ ap (λ x. where_equal R (nat_cmp l.0 (get_or a.0 p 0)) (where_equal R (nat_cmp l.1 (get_or b.0 q 0)) x)) (sym (where_joined ks (remove a.0 p) ls (remove b.0 q) (l.2 ⊗ (a.1 ⊗ b.1)) (length_rest p a.0 (length ks) hp ha)))
    where
      length_rest : (p : ℕ) (key : List ℕ) (n : ℕ) → p ≤ n → length key ≡ suc n → n ≡ length (remove key p)
      length_rest p [] n h m = absurd (omega arith)
      length_rest zero (y ∷ ys) n h m = omega arith
      length_rest (suc p) (y ∷ ys) zero h m = absurd (omega arith)
      length_rest (suc p) (y ∷ ys) (suc n) h m = ap suc (length_rest p ys n (omega arith) (omega arith))

  -- what an entry of each and a link give at the other legs
  abbrev met_at : ℕ → ℕ → List ℕ → List ℕ → List ℕ × C → List ℕ × C → ℕ × ℕ × C → C
  met_at p q ks ls a b l =
      l.2 ⊗ (where_equal R (places_cmp (insert ks p l.0) a.0) a.1 ⊗ where_equal R (places_cmp (insert ls q l.1) b.0) b.1)

  one_link : (p q : ℕ) (ks ls : List ℕ) (A B : Tensor) (l : ℕ × ℕ × C) → l.2 ⊗ (value_at A (insert ks p l.0) ⊗ value_at B (insert ls q l.1)) ≡ sum R A (λ a. sum R B (λ b. met_at p q ks ls a b l))
  unfolding coefficient
  one_link p q ks ls A B l =
      ap (λ x. l.2 ⊗ x) (sum_mul_sum R A B (at_key ks p l.0) (at_key ls q l.1))
      ∙ sym (sum-mul R l.2 A (λ a. sum R B (λ b. at_key ks p l.0 a ⊗ at_key ls q l.1 b)))
      ∙ ap (sum R A) (fun_ext (λ a. sym (sum-mul R l.2 B (λ b. at_key ks p l.0 a ⊗ at_key ls q l.1 b))))
    where
      at_key : List ℕ → ℕ → ℕ → List ℕ × C → C
      at_key js r x e = where_equal R (places_cmp (insert js r x) e.0) e.1

  -- the sum over pairs of entries and links that meet is the plain sum over the links
  pub contraction : (p q m n : ℕ) (links : Links) (A B : Tensor) (ks ls : List ℕ) → length ks ≡ m → length ls ≡ n → p ≤ m → q ≤ n → Each R (λ a. length a.0 ≡ suc m) A → Each R (λ b. length b.0 ≡ suc n) B → joined_at p q links A B ks ls ≡ sum R A (λ a. sum R B (λ b. sum R links (λ l. link_at p q a b l (ks ++ ls))))
  contraction p q m n links A B ks ls hk hl hp hq hA hB =
      ap (sum R links) (fun_ext (λ l. one_link p q ks ls A B l))
      ∙ sum-swap R links A (λ l a. sum R B (λ b. met_at p q ks ls a b l))
      ∙ ap (sum R A) (fun_ext (λ a. sum-swap R links B (λ l b. met_at p q ks ls a b l)))
      ∙ sum-same_on R (λ a. length a.0 ≡ suc m) A (λ a. sum R B (λ b. sum R links (λ l. met_at p q ks ls a b l))) (λ a. sum R B (λ b. sum R links (λ l. link_at p q a b l (ks ++ ls)))) hA
      (λ a ha. sum-same_on R (λ b. length b.0 ≡ suc n) B (λ b. sum R links (λ l. met_at p q ks ls a b l)) (λ b. sum R links (λ l. link_at p q a b l (ks ++ ls))) hB
      (λ b hb. sum-same R links (met_at p q ks ls a b) (λ l. link_at p q a b l (ks ++ ls))
      (λ l. one_triple p q ks ls a b l (omega arith) (omega arith) (ha ∙ ap suc (sym hk)) (hb ∙ ap suc (sym hl)))))
