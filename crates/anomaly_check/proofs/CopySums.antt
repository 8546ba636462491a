-- Matrices that are 0 between components of different fields or generations: their products, and their traces, which are sums
-- over fields of traces over tuples.
use Rattle.std.proofs.Common.{◌≡◌, ℕ, ◌≤◌, Bool, true, false, List, map, refl, ap, ap₂, ◌∙◌, arith, pos}
use Rattle.std.specs.Prelude.{◌≢◌, ◌&&◌, ◌==◌}
use Rattle.std.specs.List.{range_with_len}
use Rattle.std.specs.Str.{bytes_eq}
use Rattle.std.proofs.lemmas.Bool.Decides.{nat_tests}
use Rattle.std.proofs.lemmas.Slice.Eq.{bytes_eq-Decides}
use mathlib.Core.Path.{fun_ext}
use Rattle.exact_algebra.specs.Sums.{sum, sum-flat_map, sum-pairs, sum-same_on, sum-zero, below-constant}
use Rattle.exact_algebra.specs.Ranges.{sum-range}
use Rattle.frac128.specs.Rational.{ℚ, whole, zero_ℚ, ◌+ℚ◌, ◌*ℚ◌}
use Rattle.frac128.specs.RationalLaws.{ring_ℚ, zero-*ℚ, *ℚ-zero, zero-+ℚ}
use Rattle.frac128.specs.Whole.{counted}
use Rattle.su_reps.specs.Operators.{Operator}
use Rattle.model_core.specs.declared.field.Field.{Field}
use Rattle.model_core.specs.declared.model.Model.{Model}
use Rattle.model_core.specs.Anomaly.{Matrix, product, sum_of, projected_trace}
use Rattle.model_core.specs.Component.{Component, are_copies, components_of, fermion_components, projector_at, projector_over, slot_sizes, tuples}
use Rattle.model_core.specs.Valid.{are_distinct, field_name}
use Rattle.anomaly_check.proofs.FieldNames.{IsAmong, each_among, sum-name, where_holds}
use Rattle.anomaly_check.proofs.OnGroup.{traced}
use Rattle.anomaly_check.proofs.TupleSums.{each_value, product_on, sum-value}

-- ---- components

-- a component of a fermion
abbrev pub component : Field → ℕ → List ℕ → Component
component field generation values = record { field = field; conj = false; generation = generation; values = values }

abbrev pub sizes_of : Model → Field → List ℕ
sizes_of model field = slot_sizes model.groups field.reps

-- a generation of the field
abbrev pub IsGeneration : Field → ℕ → Type 0
IsGeneration field g = (1 ≤ g) × (g ≤ field.generations)

-- the sum over all fermion components: over fields, generations and tuples
sum-components : (model : Model) (f : Component → ℚ) → sum ring_ℚ.semiring (fermion_components model) f
    ≡ sum ring_ℚ.semiring model.fermions (λ x. sum ring_ℚ.semiring (range_with_len 1 x.generations) (λ g. sum ring_ℚ.semiring (tuples (sizes_of model x)) (λ t. f (component x g t))))
sum-components model f =
    sum-flat_map ring_ℚ.semiring (components_of model.groups) model.fermions f
    ∙ ap (sum ring_ℚ.semiring model.fermions) (fun_ext (λ x. sum-pairs ring_ℚ.semiring (component x) (range_with_len 1 x.generations) (tuples (sizes_of model x)) f))

-- ---- tests

-- a test goes out of a sum
sum-where_holds : {A : Type 0} (b : Bool) (xs : List A) (f : A → ℚ) → sum ring_ℚ.semiring xs (λ x. where_holds b (f x)) ≡ where_holds b (sum ring_ℚ.semiring xs f)
sum-where_holds true xs f = refl
sum-where_holds false xs f = sum-zero ring_ℚ.semiring xs

-- two tests in turn, with one between them that holds
where_three : (b c : Bool) (x : ℚ) → where_holds ((b && true) && c) x ≡ where_holds b (where_holds c x)
where_three true c x = refl
where_three false c x = refl

-- tests go through products and sums
where_times : (b : Bool) (x y : ℚ) → where_holds b x *ℚ y ≡ where_holds b (x *ℚ y)
where_times true x y = refl
where_times false x y = zero-*ℚ y

times_where : (b : Bool) (x y : ℚ) → x *ℚ where_holds b y ≡ where_holds b (x *ℚ y)
times_where true x y = refl
times_where false x y = *ℚ-zero x

where_plus : (b : Bool) (x y : ℚ) → where_holds b x +ℚ where_holds b y ≡ where_holds b (x +ℚ y)
where_plus true x y = refl
where_plus false x y = zero-+ℚ zero_ℚ

-- tests of generations
same_generation : (g : ℕ) → (g == g) ≡ true
same_generation g = grind (arith, nat_tests)

other_generation : (g h : ℕ) → h ≢ g → (g == h) ≡ false
other_generation g h apart = grind (arith, nat_tests)

-- a component is a copy of itself
own_copy : (field : Field) (g : ℕ) (p : List ℕ) → are_copies (component field g p) (component field g p) ≡ true
own_copy field g p =
    let name : bytes_eq field.name field.name ≡ true = grind (arith, bytes_eq-Decides) in
    ap₂ ◌&&◌ (ap (λ b. b && true) name) (same_generation g)

-- ---- sums over copies

module _ (model : Model) (distinct : are_distinct (map field_name model.fermions) ≡ true) where
  -- the sum over the components of one field in one generation
  sum-copies : (field : Field) (g : ℕ) (p : List ℕ) (f : Component → ℚ) → IsAmong field model.fermions → IsGeneration field g
      → sum ring_ℚ.semiring (fermion_components model) (λ e. where_holds (are_copies (component field g p) e) (f e))
      ≡ sum ring_ℚ.semiring (tuples (sizes_of model field)) (λ t. f (component field g t))
  sum-copies field g p f among generation =
      let over = λ (x : Field) (h : ℕ). sum ring_ℚ.semiring (tuples (sizes_of model x)) (λ t. f (component x h t)) in
      sum-components model (λ e. where_holds (are_copies (component field g p) e) (f e))
      ∙ ap (sum ring_ℚ.semiring model.fermions) (fun_ext (λ x.
      ap (sum ring_ℚ.semiring (range_with_len 1 x.generations)) (fun_ext (λ h.
      sum-where_holds (are_copies (component field g p) (component x h p)) (tuples (sizes_of model x)) (λ t. f (component x h t))
      ∙ where_three (bytes_eq field.name x.name) (g == h) (over x h)))
      ∙ sum-where_holds (bytes_eq field.name x.name) (range_with_len 1 x.generations) (λ h. where_holds (g == h) (over x h))))
      ∙ sum-name model.fermions field (λ x. sum ring_ℚ.semiring (range_with_len 1 x.generations) (λ h. where_holds (g == h) (over x h))) distinct among
      ∙ sum-value field.generations g (λ h. where_holds (g == h) (over field h)) generation.0 generation.1 (λ h apart. ap (λ b. where_holds b (over field h)) (other_generation g h apart))
      ∙ ap (λ b. where_holds b (over field g)) (same_generation g)

  -- ---- matrices

  -- A matrix that is, between two components of one field and one generation, a matrix of the field on their tuples, and 0
  -- elsewhere. The row is a fermion component.
  abbrev pub IsOnFields : Matrix → (Field → Operator) → Type 0
  IsOnFields A M =
      (field : Field) (g : ℕ) (p : List ℕ) (d : Component) → IsAmong field model.fermions → IsGeneration field g
      → A (component field g p) d ≡ where_holds (are_copies (component field g p) d) (M field p d.values)

  -- products of such matrices are products field by field
  pub product-on_fields : (A B : Matrix) (M N : Field → Operator) → IsOnFields A M → IsOnFields B N
      → IsOnFields (product model A B) (λ field. product_on (sizes_of model field) (M field) (N field))
  product-on_fields A B M N first second field g p d among generation =
      let c = component field g p in
      let ts = tuples (sizes_of model field) in
      ap (sum ring_ℚ.semiring (fermion_components model)) (fun_ext (λ e.
      ap (λ k. k *ℚ B e d) (first field g p e among generation) ∙ where_times (are_copies c e) (M field p e.values) (B e d)))
      ∙ sum-copies field g p (λ e. M field p e.values *ℚ B e d) among generation
      ∙ ap (sum ring_ℚ.semiring ts) (fun_ext (λ t.
      ap (λ k. M field p t *ℚ k) (second field g t d among generation) ∙ times_where (are_copies c d) (M field p t) (N field t d.values)))
      ∙ sum-where_holds (are_copies c d) ts (λ t. M field p t *ℚ N field t d.values)

  -- and so are sums
  pub sum-on_fields : (A B : Matrix) (M N : Field → Operator) → IsOnFields A M → IsOnFields B N
      → IsOnFields (sum_of model A B) (λ field p q. M field p q +ℚ N field p q)
  sum-on_fields A B M N first second field g p d among generation =
      let c = component field g p in
      ap₂ ◌+ℚ◌ (first field g p d among generation) (second field g p d among generation) ∙ where_plus (are_copies c d) (M field p d.values) (N field p d.values)

  -- the projector
  projector-on_fields : IsOnFields (projector_at model.groups) (λ field. projector_over model.groups field.reps)
  projector-on_fields field g p d among generation = refl

  -- ---- traces

  -- the same summand in each generation
  generations : (n : ℕ) (x : ℚ) → sum ring_ℚ.semiring (range_with_len 1 n) (λ _. x) ≡ whole (pos n) *ℚ x
  generations n x =
      sum-range ring_ℚ.semiring 1 n (λ _. x) ∙ below-constant ring_ℚ.semiring n x ∙ ap (λ k. k *ℚ x) (counted n)

  -- the trace with the projector is a sum over fields of their generations times the traces over tuples
  pub trace-on_fields : (A : Matrix) (M : Field → Operator) → IsOnFields A M
      → projected_trace model A ≡ sum ring_ℚ.semiring model.fermions (λ field. whole (pos field.generations) *ℚ traced model.groups field.reps (M field))
  trace-on_fields A M on =
      let P = projector_at model.groups in
      let N = λ (field : Field). product_on (sizes_of model field) (projector_over model.groups field.reps) (M field) in
      let both = product-on_fields P A (λ field. projector_over model.groups field.reps) M projector-on_fields on in
      sum-components model (λ c. product model P A c c)
      ∙ sum-same_on ring_ℚ.semiring (λ field. IsAmong field model.fermions) model.fermions _ (λ field. whole (pos field.generations) *ℚ traced model.groups field.reps (M field)) (each_among model.fermions) (λ field among.
      sum-same_on ring_ℚ.semiring (IsGeneration field) (range_with_len 1 field.generations) _ (λ _. traced model.groups field.reps (M field)) (each_value 1 field.generations field.generations (omega arith) (omega arith)) (λ g generation.
      ap (sum ring_ℚ.semiring (tuples (sizes_of model field))) (fun_ext (λ p.
      both field g p (component field g p) among generation ∙ ap (λ b. where_holds b (N field p p)) (own_copy field g p))))
      ∙ generations field.generations (traced model.groups field.reps (M field)))
