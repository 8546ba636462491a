-- Two ascending lists of keys as one: what a loop needs, and what it says of the keys.
use Rattle.std.specs.Prelude.{◌≡◌, ◌⊎◌, ◌≤◌, ℕ, zero, suc, ◌+◌, List, [], ◌∷◌, ◌++◌, length, drop}
use Rattle.std.proofs.Common.{refl, sym, ap, ap₂, ◌∙◌, subst, arith, inl, inr, Ordering, Less, Equal, Greater}
use Rattle.exact_algebra.specs.TensorContraction.{places_cmp, places_keys, places_equal}
use Rattle.exact_algebra.specs.Formal.{greater_less}
use Rattle.span_solver.specs.Block.{IsIn, Ascend}
use Rattle.span_solver.specs.Combine.{Each}
use Rattle.span_solver.specs.MergedKeys.{merge_at, merge_into, merge_keys}

append-cons : {X : Type 0} (xs : List X) (y : X) (ys : List X) → (xs ++ y ∷ []) ++ ys ≡ xs ++ (y ∷ ys)
append-cons [] y ys = refl
append-cons (x ∷ xs) y ys = ap (λ zs. x ∷ zs) (append-cons xs y ys)

append-none : {X : Type 0} (xs : List X) → xs ++ [] ≡ xs
append-none [] = refl
append-none (x ∷ xs) = ap (λ ys. x ∷ ys) (append-none xs)

drop-past : {X : Type 0} (i : ℕ) (xs : List X) → length xs ≤ i → drop i xs ≡ []
drop-past zero [] l = refl
drop-past (suc i) [] l = refl
drop-past zero (x ∷ xs) l = absurd (omega arith)
drop-past (suc i) (x ∷ xs) l = drop-past i xs (omega arith)

merge-rest : (ps : List (List ℕ)) → merge_keys ps [] ≡ ps
unfolding merge_keys
merge-rest [] = refl
merge-rest (a ∷ ps) = ap (λ r. a ∷ r) (merge-rest ps)

merge-none : (bs : List (List ℕ)) → merge_keys [] bs ≡ bs
unfolding merge_keys
merge-none bs = refl

-- ---- the steps of the loop
merge-by : (o : Ordering) (x y : List ℕ) (ps bs : List (List ℕ)) → places_cmp x y ≡ o → merge_keys (x ∷ ps) (y ∷ bs) ≡ merge_at o x y (merge_keys ps (y ∷ bs)) (merge_keys ps bs) (merge_keys (x ∷ ps) bs)
unfolding merge_keys
merge-by o x y ps bs h = ap (λ p. merge_at p x y (merge_keys ps (y ∷ bs)) (merge_keys ps bs) (merge_into x (merge_keys ps) bs)) h

module _ (a b out new whole : List (List ℕ)) (i j : ℕ) (x y : List ℕ) (da : drop i a ≡ x ∷ drop (i + 1) a) (db : drop j b ≡ y ∷ drop (j + 1) b) (h : out ++ merge_keys (drop i a) (drop j b) ≡ whole) where
  at_step : (o : Ordering) → places_cmp x y ≡ o → merge_keys (drop i a) (drop j b) ≡ merge_at o x y (merge_keys (drop (i + 1) a) (drop j b)) (merge_keys (drop (i + 1) a) (drop (j + 1) b)) (merge_keys (drop i a) (drop (j + 1) b))
  at_step o l =
      ap₂ merge_keys da db ∙ merge-by o x y (drop (i + 1) a) (drop (j + 1) b) l
      ∙ ap₂ (λ q r. merge_at o x y (merge_keys (drop (i + 1) a) r) (merge_keys (drop (i + 1) a) (drop (j + 1) b)) (merge_keys q (drop (j + 1) b))) (sym da) (sym db)

  pub step_less : places_cmp x y ≡ Less → new ≡ out ++ x ∷ [] → new ++ merge_keys (drop (i + 1) a) (drop j b) ≡ whole
  step_less l n =
      ap (λ r. r ++ merge_keys (drop (i + 1) a) (drop j b)) n ∙ append-cons out x (merge_keys (drop (i + 1) a) (drop j b)) ∙ ap (λ r. out ++ r) (sym (at_step Less l)) ∙ h

  pub step_greater : places_cmp x y ≡ Greater → new ≡ out ++ y ∷ [] → new ++ merge_keys (drop i a) (drop (j + 1) b) ≡ whole
  step_greater l n =
      ap (λ r. r ++ merge_keys (drop i a) (drop (j + 1) b)) n ∙ append-cons out y (merge_keys (drop i a) (drop (j + 1) b)) ∙ ap (λ r. out ++ r) (sym (at_step Greater l)) ∙ h

  pub step_equal : places_cmp x y ≡ Equal → new ≡ out ++ x ∷ [] → new ++ merge_keys (drop (i + 1) a) (drop (j + 1) b) ≡ whole
  step_equal l n =
      ap (λ r. r ++ merge_keys (drop (i + 1) a) (drop (j + 1) b)) n ∙ append-cons out x (merge_keys (drop (i + 1) a) (drop (j + 1) b)) ∙ ap (λ r. out ++ r) (sym (at_step Equal l)) ∙ h

pub step_end : (a b out new whole : List (List ℕ)) (i j : ℕ) → (length a ≤ i) ⊎ (length b ≤ j) → out ++ merge_keys (drop i a) (drop j b) ≡ whole → new ≡ (out ++ drop i a) ++ drop j b → new ≡ whole
step_end a b out new whole i j (inl l) h n =
    let none = drop-past i a l in
    n ∙ ap (λ r. (out ++ r) ++ drop j b) none ∙ ap (λ r. r ++ drop j b) (append-none out)
    ∙ ap (λ r. out ++ r) (sym (ap (λ r. merge_keys r (drop j b)) none ∙ merge-none (drop j b))) ∙ h
step_end a b out new whole i j (inr l) h n =
    let none = drop-past j b l in
    n ∙ ap (λ r. (out ++ drop i a) ++ r) none ∙ append-none (out ++ drop i a)
    ∙ ap (λ r. out ++ r) (sym (ap (λ r. merge_keys (drop i a) r) none ∙ merge-rest (drop i a))) ∙ h

-- ---- what holds of each key of both
each-at : (P : List ℕ → Type 0) (o : Ordering) (a b : List ℕ) (l e g : List (List ℕ)) → P a → P b → Each P l → Each P e → Each P g → Each P (merge_at o a b l e g)
each-at P Less a b l e g p q x y z = (p, x)
each-at P Equal a b l e g p q x y z = (p, y)
each-at P Greater a b l e g p q x y z = (q, z)

each-into : (P : List ℕ → Type 0) (a : List ℕ) (ps bs : List (List ℕ)) → ((cs : List (List ℕ)) → Each P cs → Each P (merge_keys ps cs)) → P a → Each P bs → Each P (merge_into a (merge_keys ps) bs)
each-into P a ps [] m p q = (p, m [] tt)
each-into P a ps (b ∷ bs) m p q =
    each-at P (places_cmp a b) a b (merge_keys ps (b ∷ bs)) (merge_keys ps bs) (merge_into a (merge_keys ps) bs) p q.0 (m (b ∷ bs) q) (m bs q.1) (each-into P a ps bs m p q.1)

pub each-merge : (P : List ℕ → Type 0) (ps bs : List (List ℕ)) → Each P ps → Each P bs → Each P (merge_keys ps bs)
unfolding merge_keys
each-merge P [] bs p q = q
each-merge P (a ∷ ps) bs p q = each-into P a ps bs (λ cs r. each-merge P ps cs p.1 r) p.0 q

-- ---- the keys of both stand in it
module _ (key : List ℕ) where
  right-at : (o : Ordering) (a b : List ℕ) (bs l e g : List (List ℕ)) → places_cmp a b ≡ o → (key ≡ b) ⊎ IsIn key bs → (IsIn key (b ∷ bs) → IsIn key l) → (IsIn key bs → IsIn key e) → (IsIn key bs → IsIn key g) → IsIn key (merge_at o a b l e g)
  right-at Less a b bs l e g h i x y z = inr (x i)
  right-at Equal a b bs l e g h (inl s) x y z = inl (s ∙ sym (places_equal a b h))
  right-at Equal a b bs l e g h (inr i) x y z = inr (y i)
  right-at Greater a b bs l e g h (inl s) x y z = inl s
  right-at Greater a b bs l e g h (inr i) x y z = inr (z i)

  right-into : (a : List ℕ) (ps bs : List (List ℕ)) → ((cs : List (List ℕ)) → IsIn key cs → IsIn key (merge_keys ps cs)) → IsIn key bs → IsIn key (merge_into a (merge_keys ps) bs)
  right-into a ps [] m i = absurd i
  right-into a ps (b ∷ bs) m i =
      right-at (places_cmp a b) a b bs (merge_keys ps (b ∷ bs)) (merge_keys ps bs) (merge_into a (merge_keys ps) bs) refl i (m (b ∷ bs)) (m bs) (right-into a ps bs m)

  pub in-right : (ps bs : List (List ℕ)) → IsIn key bs → IsIn key (merge_keys ps bs)
  unfolding merge_keys
  in-right [] bs i = i
  in-right (a ∷ ps) bs i = right-into a ps bs (in-right ps) i

  left-at : (o : Ordering) (a b : List ℕ) (ps l e g : List (List ℕ)) → IsIn key (a ∷ ps) → (IsIn key ps → IsIn key l) → (IsIn key ps → IsIn key e) → (IsIn key (a ∷ ps) → IsIn key g) → IsIn key (merge_at o a b l e g)
  left-at Less a b ps l e g (inl s) x y z = inl s
  left-at Less a b ps l e g (inr i) x y z = inr (x i)
  left-at Equal a b ps l e g (inl s) x y z = inl s
  left-at Equal a b ps l e g (inr i) x y z = inr (y i)
  left-at Greater a b ps l e g i x y z = inr (z i)

  left-into : (a : List ℕ) (ps bs : List (List ℕ)) → ((cs : List (List ℕ)) → IsIn key ps → IsIn key (merge_keys ps cs)) → IsIn key (a ∷ ps) → IsIn key (merge_into a (merge_keys ps) bs)
  left-into a ps [] m (inl s) = inl s
  left-into a ps [] m (inr i) = inr (m [] i)
  left-into a ps (b ∷ bs) m i =
      left-at (places_cmp a b) a b ps (merge_keys ps (b ∷ bs)) (merge_keys ps bs) (merge_into a (merge_keys ps) bs) i (m (b ∷ bs)) (m bs) (left-into a ps bs m)

  pub in-left : (ps bs : List (List ℕ)) → IsIn key ps → IsIn key (merge_keys ps bs)
  unfolding merge_keys
  in-left [] bs i = absurd i
  in-left (a ∷ ps) bs i = left-into a ps bs (in-left ps) i

-- ---- it ascends
each-implies : (P Q : List ℕ → Type 0) (keys : List (List ℕ)) → ((k : List ℕ) → P k → Q k) → Each P keys → Each Q keys
each-implies P Q [] f h = tt
each-implies P Q (k ∷ keys) f h = (f k h.0, each-implies P Q keys f h.1)

later : (a b : List ℕ) (bs : List (List ℕ)) → places_cmp a b ≡ Less → Each (λ j. places_cmp b j ≡ Less) bs → Each (λ j. places_cmp a j ≡ Less) bs
later a b bs l h = each-implies (λ j. places_cmp b j ≡ Less) (λ j. places_cmp a j ≡ Less) bs (λ j m. places_keys.total.trans a b j l m) h

module _ (a : List ℕ) (ps : List (List ℕ)) (after : Each (λ j. places_cmp a j ≡ Less) ps) (rest : Ascend ps) (m : (cs : List (List ℕ)) → Ascend cs → Ascend (merge_keys ps cs)) where
  ascend-at : (o : Ordering) (b : List ℕ) (bs : List (List ℕ)) → places_cmp a b ≡ o → Ascend (b ∷ bs) → Ascend (merge_into a (merge_keys ps) bs) → Ascend (merge_at o a b (merge_keys ps (b ∷ bs)) (merge_keys ps bs) (merge_into a (merge_keys ps) bs))
  ascend-at Less b bs l h r =
      (each-merge (λ j. places_cmp a j ≡ Less) ps (b ∷ bs) after (l, later a b bs l h.0), m (b ∷ bs) h)
  ascend-at Equal b bs l h r =
      let same = places_equal a b l in
      (each-merge (λ j. places_cmp a j ≡ Less) ps bs after (subst (λ k. Each (λ j. places_cmp k j ≡ Less) bs) (sym same) h.0), m bs h.1)
  ascend-at Greater b bs l h r =
      let less = greater_less places_keys a b l in
      (each-into (λ j. places_cmp b j ≡ Less) a ps bs (λ cs q. each-merge (λ j. places_cmp b j ≡ Less) ps cs (later b a ps less after) q) less h.0, r)

  ascend-into : (bs : List (List ℕ)) → Ascend bs → Ascend (merge_into a (merge_keys ps) bs)
  ascend-into [] h = (each-merge (λ j. places_cmp a j ≡ Less) ps [] after tt, m [] tt)
  ascend-into (b ∷ bs) h = ascend-at (places_cmp a b) b bs refl h (ascend-into bs h.1)

pub ascend-merge : (ps bs : List (List ℕ)) → Ascend ps → Ascend bs → Ascend (merge_keys ps bs)
unfolding merge_keys
ascend-merge [] bs p q = q
ascend-merge (a ∷ ps) bs p q = ascend-into a ps p.0 p.1 (λ cs r. ascend-merge ps cs p.1 r) bs q
