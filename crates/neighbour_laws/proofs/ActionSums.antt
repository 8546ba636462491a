-- The action of a matrix on the legs of a tensor: how it depends on the matrix and on the tensor, and two actions in turn.
use Rattle.std.proofs.Common.{◌≡◌, ℕ, ◌<◌, List, [], ◌∷◌, length, sym, ap, ap₂, ◌∙◌, refl}
use Rattle.std.specs.Prelude.{⊤}
use mathlib.Core.Path.{fun_ext}
use Rattle.exact_algebra.specs.Solver.{identity}
use Rattle.exact_algebra.specs.Solver.Term.{var, ◌⊕◌, ◌⊗◌}
use Rattle.exact_algebra.specs.Sums.{below, below-add, below-mul, below-mul_right, below-none, below-same, below-swap}
use Rattle.frac128.specs.Rational.{ℚ, zero_ℚ, ◌+ℚ◌, ◌*ℚ◌}
use Rattle.frac128.specs.RationalLaws.{ring_ℚ, *ℚ-+ℚ, *ℚ-zero, zero-*ℚ, zero-+ℚ}
use Rattle.model_core.specs.Scalar.{Coordinate}
use Rattle.model_core.specs.Invariance.{acted, matrix_at}
use Rattle.neighbour_laws.specs.Neighbours.{IsKey}

-- ---- regrouping

between_sums : (a b c d : ℚ) → (a +ℚ b) +ℚ (c +ℚ d) ≡ (a +ℚ c) +ℚ (b +ℚ d)
between_sums a b c d = identity ring_ℚ (a ∷ b ∷ c ∷ d ∷ []) ((var 0 ⊕ var 1) ⊕ (var 2 ⊕ var 3)) ((var 0 ⊕ var 2) ⊕ (var 1 ⊕ var 3)) refl

factor_first : (a b c : ℚ) → a *ℚ (b *ℚ c) ≡ b *ℚ (a *ℚ c)
factor_first a b c = identity ring_ℚ (a ∷ b ∷ c ∷ []) (var 0 ⊗ (var 1 ⊗ var 2)) (var 1 ⊗ (var 0 ⊗ var 2)) refl

factors_joined : (a b c : ℚ) → a *ℚ (b *ℚ c) ≡ (b *ℚ a) *ℚ c
factors_joined a b c = identity ring_ℚ (a ∷ b ∷ c ∷ []) (var 0 ⊗ (var 1 ⊗ var 2)) ((var 1 ⊗ var 0) ⊗ var 2) refl

-- a factor goes into a sum of three
spread : (a c x d y g : ℚ) → (a +ℚ (c *ℚ x +ℚ d *ℚ y)) *ℚ g ≡ a *ℚ g +ℚ (c *ℚ (x *ℚ g) +ℚ d *ℚ (y *ℚ g))
spread a c x d y g =
    identity ring_ℚ (a ∷ c ∷ x ∷ d ∷ y ∷ g ∷ []) ((var 0 ⊕ (var 1 ⊗ var 2 ⊕ var 3 ⊗ var 4)) ⊗ var 5) (var 0 ⊗ var 5 ⊕ (var 1 ⊗ (var 2 ⊗ var 5) ⊕ var 3 ⊗ (var 4 ⊗ var 5))) refl

-- the first leg and the others
both_parts : (u v w s c d p q r t : ℚ)
    → ((u +ℚ (c *ℚ p +ℚ d *ℚ q)) +ℚ v) +ℚ (w +ℚ (s +ℚ (c *ℚ r +ℚ d *ℚ t))) ≡ ((u +ℚ w) +ℚ (v +ℚ s)) +ℚ (c *ℚ (p +ℚ r) +ℚ d *ℚ (q +ℚ t))
both_parts u v w s c d p q r t =
    identity ring_ℚ (u ∷ v ∷ w ∷ s ∷ c ∷ d ∷ p ∷ q ∷ r ∷ t ∷ [])
    (((var 0 ⊕ (var 4 ⊗ var 6 ⊕ var 5 ⊗ var 7)) ⊕ var 1) ⊕ (var 2 ⊕ (var 3 ⊕ (var 4 ⊗ var 8 ⊕ var 5 ⊗ var 9))))
    (((var 0 ⊕ var 2) ⊕ (var 1 ⊕ var 3)) ⊕ (var 4 ⊗ (var 6 ⊕ var 8) ⊕ var 5 ⊗ (var 7 ⊕ var 9))) refl

-- nothing with any factors
pub nothing_times : (c d : ℚ) → zero_ℚ ≡ zero_ℚ +ℚ (c *ℚ zero_ℚ +ℚ d *ℚ zero_ℚ)
nothing_times c d = sym (zero-+ℚ (c *ℚ zero_ℚ +ℚ d *ℚ zero_ℚ) ∙ ap₂ ◌+ℚ◌ (*ℚ-zero c) (*ℚ-zero d) ∙ zero-+ℚ zero_ℚ)

-- ---- keys and legs

abbrev pub Matrix : Type 0
Matrix = Coordinate → Coordinate → ℚ

-- a matrix on one leg
abbrev pub on_leg : Matrix → List Coordinate → (ℕ → ℚ) → ℕ → ℚ
on_leg A leg g y = below ring_ℚ.semiring (length leg) (λ x. matrix_at A leg x y *ℚ g x)

acted-no_legs : (A : Matrix) (f : List ℕ → ℚ) (key : List ℕ) → acted A [] f key ≡ zero_ℚ
unfolding acted
acted-no_legs A f key = refl

acted-no_key : (A : Matrix) (leg : List Coordinate) (legs : List (List Coordinate)) (f : List ℕ → ℚ) → acted A (leg ∷ legs) f [] ≡ zero_ℚ
unfolding acted
acted-no_key A leg legs f = refl

acted-cons : (A : Matrix) (leg : List Coordinate) (legs : List (List Coordinate)) (f : List ℕ → ℚ) (y : ℕ) (key : List ℕ)
    → acted A (leg ∷ legs) f (y ∷ key) ≡ on_leg A leg (λ x. f (x ∷ key)) y +ℚ acted A legs (λ rest. f (y ∷ rest)) key
unfolding acted
acted-cons A leg legs f y key = refl

-- ---- the tensor

-- a tensor that is 0 at all keys stays so
pub acted-none : (A : Matrix) (legs : List (List Coordinate)) (f : List ℕ → ℚ) → ((key : List ℕ) → IsKey legs key → f key ≡ zero_ℚ) → (key : List ℕ) → IsKey legs key → acted A legs f key ≡ zero_ℚ
acted-none A [] f none key inside = acted-no_legs A f key
acted-none A (leg ∷ legs) f none [] inside = absurd inside
acted-none A (leg ∷ legs) f none (y ∷ key) inside =
    acted-cons A leg legs f y key
    ∙ ap₂ ◌+ℚ◌ (below-none ring_ℚ.semiring (length leg) (λ x. matrix_at A leg x y *ℚ f (x ∷ key)) (λ x l. ap (λ k. matrix_at A leg x y *ℚ k) (none (x ∷ key) (l, inside.1)) ∙ *ℚ-zero (matrix_at A leg x y)))
    (acted-none A legs (λ rest. f (y ∷ rest)) (λ rest here. none (y ∷ rest) (inside.0, here)) key inside.1)
    ∙ zero-+ℚ zero_ℚ

-- on a sum of two
acted-add : (A : Matrix) (legs : List (List Coordinate)) (f g : List ℕ → ℚ) (key : List ℕ) → acted A legs (λ k. f k +ℚ g k) key ≡ acted A legs f key +ℚ acted A legs g key
acted-add A [] f g key = acted-no_legs A (λ k. f k +ℚ g k) key ∙ sym (ap₂ ◌+ℚ◌ (acted-no_legs A f key) (acted-no_legs A g key) ∙ zero-+ℚ zero_ℚ)
acted-add A (leg ∷ legs) f g [] = acted-no_key A leg legs (λ k. f k +ℚ g k) ∙ sym (ap₂ ◌+ℚ◌ (acted-no_key A leg legs f) (acted-no_key A leg legs g) ∙ zero-+ℚ zero_ℚ)
acted-add A (leg ∷ legs) f g (y ∷ key) =
    let n = length leg in
    let first = λ (x : ℕ). matrix_at A leg x y *ℚ f (x ∷ key) in
    let second = λ (x : ℕ). matrix_at A leg x y *ℚ g (x ∷ key) in
    acted-cons A leg legs (λ k. f k +ℚ g k) y key
    ∙ ap₂ ◌+ℚ◌ (ap (below ring_ℚ.semiring n) (fun_ext (λ x. *ℚ-+ℚ (matrix_at A leg x y) (f (x ∷ key)) (g (x ∷ key)))) ∙ below-add ring_ℚ.semiring n first second)
    (acted-add A legs (λ rest. f (y ∷ rest)) (λ rest. g (y ∷ rest)) key)
    ∙ between_sums (below ring_ℚ.semiring n first) (below ring_ℚ.semiring n second) (acted A legs (λ rest. f (y ∷ rest)) key) (acted A legs (λ rest. g (y ∷ rest)) key)
    ∙ sym (ap₂ ◌+ℚ◌ (acted-cons A leg legs f y key) (acted-cons A leg legs g y key))

-- on a sum of n with factors
acted-across : (A : Matrix) (legs : List (List Coordinate)) (n : ℕ) (c : ℕ → ℚ) (f : ℕ → List ℕ → ℚ) (key : List ℕ)
    → acted A legs (λ k. below ring_ℚ.semiring n (λ x. c x *ℚ f x k)) key ≡ below ring_ℚ.semiring n (λ x. c x *ℚ acted A legs (f x) key)
acted-across A [] n c f key =
    acted-no_legs A (λ k. below ring_ℚ.semiring n (λ x. c x *ℚ f x k)) key
    ∙ sym (below-none ring_ℚ.semiring n (λ x. c x *ℚ acted A [] (f x) key) (λ x l. ap (λ k. c x *ℚ k) (acted-no_legs A (f x) key) ∙ *ℚ-zero (c x)))
acted-across A (leg ∷ legs) n c f [] =
    acted-no_key A leg legs (λ k. below ring_ℚ.semiring n (λ x. c x *ℚ f x k))
    ∙ sym (below-none ring_ℚ.semiring n (λ x. c x *ℚ acted A (leg ∷ legs) (f x) []) (λ x l. ap (λ k. c x *ℚ k) (acted-no_key A leg legs (f x)) ∙ *ℚ-zero (c x)))
acted-across A (leg ∷ legs) n c f (y ∷ key) =
    let m = length leg in
    let entry = λ (z : ℕ). matrix_at A leg z y in
    let here = λ (x : ℕ). below ring_ℚ.semiring m (λ z. entry z *ℚ f x (z ∷ key)) in
    let others = λ (x : ℕ). acted A legs (λ rest. f x (y ∷ rest)) key in
    acted-cons A leg legs (λ k. below ring_ℚ.semiring n (λ x. c x *ℚ f x k)) y key
    ∙ ap₂ ◌+ℚ◌ (ap (below ring_ℚ.semiring m) (fun_ext (λ z. sym (below-mul ring_ℚ.semiring n (entry z) (λ x. c x *ℚ f x (z ∷ key)))))
    ∙ below-swap ring_ℚ.semiring m n (λ z x. entry z *ℚ (c x *ℚ f x (z ∷ key)))
    ∙ ap (below ring_ℚ.semiring n) (fun_ext (λ x.
    ap (below ring_ℚ.semiring m) (fun_ext (λ z. factor_first (entry z) (c x) (f x (z ∷ key)))) ∙ below-mul ring_ℚ.semiring m (c x) (λ z. entry z *ℚ f x (z ∷ key)))))
    (acted-across A legs n c (λ x rest. f x (y ∷ rest)) key)
    ∙ sym (below-add ring_ℚ.semiring n (λ x. c x *ℚ here x) (λ x. c x *ℚ others x))
    ∙ ap (below ring_ℚ.semiring n) (fun_ext (λ x. sym (*ℚ-+ℚ (c x) (here x) (others x)) ∙ ap (λ k. c x *ℚ k) (sym (acted-cons A leg legs (f x) y key))))

-- ---- two matrices in turn

-- on one leg
on_leg-twice : (A B : Matrix) (leg : List Coordinate) (g : ℕ → ℚ) (y : ℕ)
    → on_leg B leg (on_leg A leg g) y ≡ below ring_ℚ.semiring (length leg) (λ x. below ring_ℚ.semiring (length leg) (λ z. matrix_at A leg x z *ℚ matrix_at B leg z y) *ℚ g x)
on_leg-twice A B leg g y =
    let n = length leg in
    ap (below ring_ℚ.semiring n) (fun_ext (λ z. sym (below-mul ring_ℚ.semiring n (matrix_at B leg z y) (λ x. matrix_at A leg x z *ℚ g x))))
    ∙ below-swap ring_ℚ.semiring n n (λ z x. matrix_at B leg z y *ℚ (matrix_at A leg x z *ℚ g x))
    ∙ ap (below ring_ℚ.semiring n) (fun_ext (λ x.
    ap (below ring_ℚ.semiring n) (fun_ext (λ z. factors_joined (matrix_at B leg z y) (matrix_at A leg x z) (g x))) ∙ below-mul_right ring_ℚ.semiring n (g x) (λ z. matrix_at A leg x z *ℚ matrix_at B leg z y)))

-- on the first leg and on the others: four parts
acted-twice : (A B : Matrix) (leg : List Coordinate) (legs : List (List Coordinate)) (f : List ℕ → ℚ) (y : ℕ) (key : List ℕ)
    → acted B (leg ∷ legs) (acted A (leg ∷ legs) f) (y ∷ key)
    ≡ (on_leg B leg (on_leg A leg (λ x. f (x ∷ key))) y +ℚ on_leg B leg (λ x. acted A legs (λ rest. f (x ∷ rest)) key) y)
    +ℚ (on_leg A leg (λ x. acted B legs (λ rest. f (x ∷ rest)) key) y +ℚ acted B legs (acted A legs (λ rest. f (y ∷ rest))) key)
acted-twice A B leg legs f y key =
    let n = length leg in
    let entry = λ (x : ℕ). matrix_at B leg x y in
    let first = λ (k : List ℕ) (x : ℕ). on_leg A leg (λ z. f (z ∷ k)) x in
    let rest = λ (k : List ℕ) (x : ℕ). acted A legs (λ r. f (x ∷ r)) k in
    acted-cons B leg legs (acted A (leg ∷ legs) f) y key
    ∙ ap₂ ◌+ℚ◌ (ap (below ring_ℚ.semiring n) (fun_ext (λ x. ap (λ k. entry x *ℚ k) (acted-cons A leg legs f x key) ∙ *ℚ-+ℚ (entry x) (first key x) (rest key x)))
    ∙ below-add ring_ℚ.semiring n (λ x. entry x *ℚ first key x) (λ x. entry x *ℚ rest key x))
    (ap (λ g. acted B legs g key) (fun_ext (λ k. acted-cons A leg legs f y k))
    ∙ acted-add B legs (λ k. first k y) (λ k. rest k y) key
    ∙ ap (λ k. k +ℚ acted B legs (acted A legs (λ r. f (y ∷ r))) key) (acted-across B legs n (λ z. matrix_at A leg z y) (λ z k. f (z ∷ k)) key))

-- ---- brackets

module _ (A B C D : Matrix) (c d : ℚ) where
  -- A B - B A is c C + d D on a leg
  abbrev pub IsBracket : List Coordinate → Type 0
  IsBracket leg =
      (x y : ℕ) → x < length leg → y < length leg
      → below ring_ℚ.semiring (length leg) (λ z. matrix_at A leg x z *ℚ matrix_at B leg z y)
      ≡ below ring_ℚ.semiring (length leg) (λ z. matrix_at B leg x z *ℚ matrix_at A leg z y) +ℚ (c *ℚ matrix_at C leg x y +ℚ d *ℚ matrix_at D leg x y)

  -- on each leg
  abbrev pub AreBrackets : List (List Coordinate) → Type 0
  AreBrackets [] = ⊤
  AreBrackets (leg ∷ legs) = IsBracket leg × AreBrackets legs

  on_leg-bracket : (leg : List Coordinate) (g : ℕ → ℚ) (y : ℕ) → IsBracket leg → y < length leg
      → on_leg B leg (on_leg A leg g) y ≡ on_leg A leg (on_leg B leg g) y +ℚ (c *ℚ on_leg C leg g y +ℚ d *ℚ on_leg D leg g y)
  on_leg-bracket leg g y bracket inside =
      let n = length leg in
      let turned = λ (x : ℕ). below ring_ℚ.semiring n (λ z. matrix_at B leg x z *ℚ matrix_at A leg z y) in
      let first = λ (x : ℕ). matrix_at C leg x y *ℚ g x in
      let second = λ (x : ℕ). matrix_at D leg x y *ℚ g x in
      on_leg-twice A B leg g y
      ∙ below-same ring_ℚ.semiring n _ (λ x. turned x *ℚ g x +ℚ (c *ℚ first x +ℚ d *ℚ second x)) (λ x l. ap (λ k. k *ℚ g x) (bracket x y l inside) ∙ spread (turned x) c (matrix_at C leg x y) d (matrix_at D leg x y) (g x))
      ∙ below-add ring_ℚ.semiring n (λ x. turned x *ℚ g x) (λ x. c *ℚ first x +ℚ d *ℚ second x)
      ∙ ap₂ ◌+ℚ◌ (sym (on_leg-twice B A leg g y))
      (below-add ring_ℚ.semiring n (λ x. c *ℚ first x) (λ x. d *ℚ second x) ∙ ap₂ ◌+ℚ◌ (below-mul ring_ℚ.semiring n c first) (below-mul ring_ℚ.semiring n d second))

  -- the actions on all legs have the same bracket
  pub acted-bracket : (legs : List (List Coordinate)) (f : List ℕ → ℚ) (key : List ℕ) → AreBrackets legs → IsKey legs key
      → acted B legs (acted A legs f) key ≡ acted A legs (acted B legs f) key +ℚ (c *ℚ acted C legs f key +ℚ d *ℚ acted D legs f key)
  acted-bracket [] f key brackets inside =
      acted-no_legs B (acted A [] f) key
      ∙ nothing_times c d
      ∙ sym (ap₂ ◌+ℚ◌ (acted-no_legs A (acted B [] f) key) (ap₂ (λ x y. c *ℚ x +ℚ d *ℚ y) (acted-no_legs C f key) (acted-no_legs D f key)))
  acted-bracket (leg ∷ legs) f [] brackets inside = absurd inside
  acted-bracket (leg ∷ legs) f (y ∷ key) brackets inside =
      let g = λ (x : ℕ). f (x ∷ key) in
      let fy = λ (k : List ℕ). f (y ∷ k) in
      let cross = on_leg B leg (λ x. acted A legs (λ rest. f (x ∷ rest)) key) y in
      let turned = on_leg A leg (λ x. acted B legs (λ rest. f (x ∷ rest)) key) y in
      acted-twice A B leg legs f y key
      ∙ ap₂ (λ u s. (u +ℚ cross) +ℚ (turned +ℚ s)) (on_leg-bracket leg g y brackets.0 inside.0) (acted-bracket legs fy key brackets.1 inside.1)
      ∙ both_parts (on_leg A leg (on_leg B leg g) y) cross turned (acted A legs (acted B legs fy) key) c d (on_leg C leg g y) (on_leg D leg g y) (acted C legs fy key) (acted D legs fy key)
      ∙ sym (ap₂ ◌+ℚ◌ (acted-twice B A leg legs f y key) (ap₂ (λ x z. c *ℚ x +ℚ d *ℚ z) (acted-cons C leg legs f y key) (acted-cons D leg legs f y key)))

-- ---- a sum of matrices

module _ (n : ℕ) (A : ℕ → Matrix) where
  -- n matrices add up to 0 on a leg
  abbrev pub HasNoSum : List Coordinate → Type 0
  HasNoSum leg = (x y : ℕ) → x < length leg → y < length leg → below ring_ℚ.semiring n (λ i. matrix_at (A i) leg x y) ≡ zero_ℚ

  abbrev pub HaveNoSum : List (List Coordinate) → Type 0
  HaveNoSum [] = ⊤
  HaveNoSum (leg ∷ legs) = HasNoSum leg × HaveNoSum legs

  -- so do their actions
  pub acted-no_sum : (legs : List (List Coordinate)) (f : List ℕ → ℚ) (key : List ℕ) → HaveNoSum legs → IsKey legs key → below ring_ℚ.semiring n (λ i. acted (A i) legs f key) ≡ zero_ℚ
  acted-no_sum [] f key none inside = below-none ring_ℚ.semiring n (λ i. acted (A i) [] f key) (λ i l. acted-no_legs (A i) f key)
  acted-no_sum (leg ∷ legs) f [] none inside = absurd inside
  acted-no_sum (leg ∷ legs) f (y ∷ key) none inside =
      let m = length leg in
      let first = λ (i : ℕ). on_leg (A i) leg (λ x. f (x ∷ key)) y in
      let others = λ (i : ℕ). acted (A i) legs (λ rest. f (y ∷ rest)) key in
      ap (below ring_ℚ.semiring n) (fun_ext (λ i. acted-cons (A i) leg legs f y key))
      ∙ below-add ring_ℚ.semiring n first others
      ∙ ap₂ ◌+ℚ◌ (below-swap ring_ℚ.semiring n m (λ i x. matrix_at (A i) leg x y *ℚ f (x ∷ key))
      ∙ below-none ring_ℚ.semiring m _ (λ x l. below-mul_right ring_ℚ.semiring n (f (x ∷ key)) (λ i. matrix_at (A i) leg x y) ∙ ap (λ k. k *ℚ f (x ∷ key)) (none.0 x y l inside.0) ∙ zero-*ℚ (f (x ∷ key))))
      (acted-no_sum legs (λ rest. f (y ∷ rest)) key none.1 inside.1)
      ∙ zero-+ℚ zero_ℚ
