-- The dense anomaly traces of a valid model are sums over fields of multiplicities, group numbers and charges.
use Rattle.std.proofs.Common.{◌≡◌, ℕ, zero, suc, ◌<◌, ◌≤◌, true, false, cond, List, [], ◌∷◌, length, Some, refl, sym, ap, ap₂, ◌∙◌, arith, pos}
use Rattle.std.specs.Prelude.{◌==◌, slice_get, unwrap_or}
use Rattle.std.specs.List.{list_all}
use Rattle.std.proofs.lemmas.Option.{slice_get_within}
use Rattle.exact_algebra.specs.Sums.{sum, Each, sum-same_on}
use Rattle.frac128.specs.Rational.{ℚ, whole, ◌+ℚ◌, ◌*ℚ◌}
use Rattle.frac128.specs.RationalLaws.{ring_ℚ}
use Rattle.frac128.specs.Whole.{whole-mul}
use Rattle.su_reps.specs.declared.rep.Rep.{Rep}
use Rattle.su_reps.specs.declared.rep.Rep.TheVariants.{Singlet}
use Rattle.su_reps.specs.Tuples.{action, same}
use Rattle.su_reps.specs.Operators.{Operator}
use Rattle.su_reps.proofs.GroupNumbers.{cubic_law, doubled_index_law}
use Rattle.model_core.specs.declared.group.Group.{Group}
use Rattle.model_core.specs.declared.field.Field.{Field}
use Rattle.model_core.specs.declared.model.Model.{Model}
use Rattle.model_core.specs.Anomaly.{Matrix, Q, X, abelian_trace, cubic_trace, gravity_trace, index_trace, mixed_trace, product, projected_trace, sum_of}
use Rattle.model_core.specs.Component.{are_copies}
use Rattle.model_core.specs.GaugeBeta.{rep_at}
use Rattle.model_core.specs.Generators.{Matrices, on_group}
use Rattle.model_core.specs.Multiplet.{dimensions, doubled_index_sum, fermion_copies, field_size}
use Rattle.model_core.specs.Valid.{IsValid, is_field}
use Rattle.model_core.proofs.Traces.{AreSpecial}
use Rattle.model_core.proofs.ValidLaws.{are_special, field_reps, first_passes, groups_pass, length-reps, parts_fields, parts_groups, valid_parts}
use Rattle.anomaly_check.specs.Counts.{charge, charge_cubed, cubic_share, cubic_sum, index_share, weighted_sum}
use Rattle.anomaly_check.proofs.CopySums.{IsOnFields, component, product-on_fields, sizes_of, sum-on_fields, trace-on_fields}
use Rattle.anomaly_check.proofs.FieldNames.{fermion_names, where_holds}
use Rattle.anomaly_check.proofs.OnGroup.{on_group-product, on_group-sum, products, projected, scaled, scaled-product, sums, traced, traced-agree, traced-on_group, traced-same, traced-scaled}
use Rattle.anomaly_check.proofs.ShareSums.{charge_last, charges_last, cubic_of, cubic_of-times, index_of, index_of-times, other_size, sum-cubic, sum-index}
use Rattle.anomaly_check.proofs.TupleSums.{Agree, product-agree, product_on}

-- ---- fields

-- each passes the test
each_passes : (groups : List Group) (fields : List Field) → list_all (is_field groups) fields ≡ true → Each ring_ℚ.semiring (λ field. is_field groups field ≡ true) fields
each_passes groups [] h = tt
each_passes groups (field ∷ fields) h =
    let parts = first_passes (is_field groups) field fields h in
    (parts.0, each_passes groups fields parts.1)

-- the representation at a place
rep_given : (reps : List Rep) (place : ℕ) → place < length reps → slice_get reps place ≡ Some (unwrap_or (slice_get reps place) Singlet)
rep_given [] place h = absurd (omega arith)
rep_given (r ∷ reps) zero h = refl
rep_given (r ∷ reps) (suc place) h = rep_given reps place (omega arith)

module _ (model : Model) (valid : IsValid model) where
  -- A is M on each field
  abbrev IsOn : Matrix → (Field → Operator) → Type 0
  IsOn A M = IsOnFields model (fermion_names model valid) A M

  -- products and sums, field by field
  product-on : (A B : Matrix) (M N : Field → Operator) → IsOn A M → IsOn B N → IsOn (product model A B) (λ field. product_on (sizes_of model field) (M field) (N field))
  product-on A B M N first second = product-on_fields model (fermion_names model valid) A B M N first second

  sum-on : (A B : Matrix) (M N : Field → Operator) → IsOn A M → IsOn B N → IsOn (sum_of model A B) (λ field p q. M field p q +ℚ N field p q)
  sum-on A B M N first second = sum-on_fields model (fermion_names model valid) A B M N first second

  -- a trace is a sum over fields of what each gives
  trace-on : (A : Matrix) (M : Field → Operator) (number : Field → ℚ) → IsOn A M
      → ((field : Field) → is_field model.groups field ≡ true → whole (pos field.generations) *ℚ traced model.groups field.reps (M field) ≡ number field)
      → projected_trace model A ≡ sum ring_ℚ.semiring model.fermions number
  trace-on A M number on each =
      let passes = each_passes model.groups model.fermions (parts_fields model (valid_parts model valid)) in
      trace-on_fields model (fermion_names model valid) A M on
      ∙ sum-same_on ring_ℚ.semiring (λ field. is_field model.groups field ≡ true) model.fermions _ number passes each

  -- a field's representations have projectors whose traces are their dimensions
  special : (field : Field) → is_field model.groups field ≡ true → AreSpecial model.groups field.reps
  special field passes = are_special model.groups field.reps (groups_pass model.groups (parts_groups model (valid_parts model valid))) (field_reps model.groups field passes)

  -- ---- the charge

  -- the charge times the identity
  abbrev q : Field → Operator
  q field = scaled field.charge same

  -- Q is it
  Q-on : (at : ℕ × Group) → IsOn (Q model at) q
  Q-on at field g p d among generation = refl

  -- Tr(Q)
  pub gravity_is : (at : ℕ × Group) → gravity_trace model at ≡ weighted_sum (field_size model.groups) charge model.fermions
  unfolding gravity_trace
  gravity_is at =
      trace-on (Q model at) q (λ field. whole (pos (field_size model.groups field)) *ℚ charge field) (Q-on at) (λ field passes.
      let c = field.charge in
      let count = whole (pos field.generations) in
      let size = dimensions model.groups field.reps in
      ap (λ k. count *ℚ k) (traced-scaled model.groups field.reps c same ∙ ap (λ k. c *ℚ k) (traced-same model.groups field.reps (special field passes)))
      ∙ charge_last count c (whole (pos size))
      ∙ ap (λ k. k *ℚ c) (sym (whole-mul field.generations size)))

  -- the square and the cube of the charge
  abbrev qq : Field → Operator
  qq field = product_on (sizes_of model field) (q field) (q field)

  abbrev qqq : Field → Operator
  qqq field = product_on (sizes_of model field) (q field) (qq field)

  -- a matrix with the charge in front has that times its trace
  charge-traced : (field : Field) (A : Operator) → traced model.groups field.reps (product_on (sizes_of model field) (q field) A) ≡ field.charge *ℚ traced model.groups field.reps A
  charge-traced field A =
      let c = field.charge in
      let sizes = sizes_of model field in
      traced-agree model.groups field.reps (product_on sizes (scaled c same) A) (scaled c A) (scaled-product sizes c A) ∙ traced-scaled model.groups field.reps c A

  -- that of the cube
  cube-traced : (field : Field) → is_field model.groups field ≡ true
      → traced model.groups field.reps (qqq field) ≡ field.charge *ℚ (field.charge *ℚ (field.charge *ℚ whole (pos (dimensions model.groups field.reps))))
  cube-traced field passes =
      let c = field.charge in
      let one : traced model.groups field.reps (q field) ≡ c *ℚ whole (pos (dimensions model.groups field.reps)) =
      traced-scaled model.groups field.reps c same ∙ ap (λ k. c *ℚ k) (traced-same model.groups field.reps (special field passes)) in
      charge-traced field (qq field) ∙ ap (λ k. c *ℚ k) (charge-traced field (q field) ∙ ap (λ k. c *ℚ k) one)

  -- Tr(Q^3)
  pub abelian_is : (at : ℕ × Group) → abelian_trace model at ≡ weighted_sum (field_size model.groups) charge_cubed model.fermions
  unfolding abelian_trace
  abelian_is at =
      let A = Q model at in
      let square = product-on A A q q (Q-on at) (Q-on at) in
      let cube = product-on A (product model A A) q qq (Q-on at) square in
      trace-on (product model A (product model A A)) qqq (λ field. whole (pos (field_size model.groups field)) *ℚ charge_cubed field) cube (λ field passes.
      let count = whole (pos field.generations) in
      let size = dimensions model.groups field.reps in
      ap (λ k. count *ℚ k) (cube-traced field passes)
      ∙ charges_last count field.charge (whole (pos size))
      ∙ ap (λ k. k *ℚ charge_cubed field) (sym (whole-mul field.generations size)))

  -- ---- SU(n)

  module _ (place : ℕ) (group : Group) (found : slice_get model.groups place ≡ Some group) where
    -- the group at its place
    abbrev at : ℕ × Group
    at = (place, group)

    -- X_ij on a representation, and a field's matrix that acts on the group's slots alone
    abbrev entries : ℕ → ℕ → Matrices
    entries i j rep n = action rep n i j

    abbrev on : Matrices → Field → Operator
    on M field = on_group M model.groups field.reps place

    -- X_ij is such a matrix
    X-on : (i j : ℕ) → (i == 0) ≡ false → IsOn (X model at i j) (on (entries i j))
    X-on i j other field g p d among generation =
        ap (λ b. where_holds (are_copies (component field g p) d) (cond b (field.charge *ℚ same p d.values) (on (entries i j) field p d.values))) other

    -- two such matrices in turn
    abbrev in_turn : Matrices → Matrices → Field → Operator
    in_turn M N field = product_on (sizes_of model field) (on M field) (on N field)

    -- their product is another one
    turn-agree : (M N : Matrices) (field : Field) → Agree (sizes_of model field) (in_turn M N field) (on (products M N) field)
    turn-agree M N field = on_group-product M N model.groups field.reps place

    -- X_ij X_lm is their product
    X-in_turn : (i j l m : ℕ) → (i == 0) ≡ false → (l == 0) ≡ false → IsOn (product model (X model at i j) (X model at l m)) (in_turn (entries i j) (entries l m))
    X-in_turn i j l m first second = product-on (X model at i j) (X model at l m) (on (entries i j)) (on (entries l m)) (X-on i j first) (X-on l m second)

    -- the trace over a field's tuples
    on-traced : (M : Matrices) (field : Field) → is_field model.groups field ≡ true
        → traced model.groups field.reps (on M field) ≡ whole (pos (other_size model.groups place group field)) *ℚ projected M (rep_at field place) group.n
    on-traced M field passes =
        let count : length field.reps ≡ length model.groups = length-reps model.groups field.reps (field_reps model.groups field passes) in
        let inside : place < length field.reps = omega (arith, count, slice_get_within model.groups place group found) in
        traced-on_group M model.groups field.reps place group (rep_at field place) found (rep_given field.reps place inside) (special field passes)

    -- ---- X_12 X_21

    -- on a field
    abbrev pair : Field → Operator
    pair = in_turn (entries 1 2) (entries 2 1)

    -- its trace there
    pair-traced : 2 ≤ group.n → (field : Field) → is_field model.groups field ≡ true → traced model.groups field.reps (pair field) ≡ index_of model.groups place group field
    pair-traced large field passes =
        traced-agree model.groups field.reps (pair field) (on (products (entries 1 2) (entries 2 1)) field) (turn-agree (entries 1 2) (entries 2 1) field)
        ∙ on-traced (products (entries 1 2) (entries 2 1)) field passes
        ∙ ap (λ k. whole (pos (other_size model.groups place group field)) *ℚ k) (doubled_index_law (rep_at field place) group.n large)

    -- Tr(X_12 X_21)
    pub index_is : 2 ≤ group.n → index_trace model (place, group) ≡ whole (pos (doubled_index_sum fermion_copies model.groups place group model.fermions))
    unfolding index_trace
    index_is large =
        trace-on (product model (X model at 1 2) (X model at 2 1)) pair (λ field. whole (pos (index_share model.groups place group field))) (X-in_turn 1 2 2 1 refl refl)
        (λ field passes. ap (λ k. whole (pos field.generations) *ℚ k) (pair-traced large field passes) ∙ index_of-times model.groups place group field)
        ∙ sum-index model.groups place group model.fermions

    -- Tr(Q X_12 X_21)
    pub mixed_is : 2 ≤ group.n → (abelian : ℕ × Group) → mixed_trace model (place, group) abelian ≡ weighted_sum (index_share model.groups place group) charge model.fermions
    unfolding mixed_trace
    mixed_is large abelian =
        let A = Q model abelian in
        let B = product model (X model at 1 2) (X model at 2 1) in
        let charged = λ (field : Field). product_on (sizes_of model field) (q field) (pair field) in
        let both = product-on A B q pair (Q-on abelian) (X-in_turn 1 2 2 1 refl refl) in
        trace-on (product model A B) charged (λ field. whole (pos (index_share model.groups place group field)) *ℚ charge field) both (λ field passes.
        let c = field.charge in
        let count = whole (pos field.generations) in
        ap (λ k. count *ℚ k) (charge-traced field (pair field) ∙ ap (λ k. c *ℚ k) (pair-traced large field passes))
        ∙ charge_last count c (index_of model.groups place group field)
        ∙ ap (λ k. k *ℚ c) (index_of-times model.groups place group field))

    -- ---- X_12 (X_23 X_31 + X_31 X_23)

    -- the sum, and X_12 times it, on a field and on a representation
    abbrev both_orders : Field → Operator
    both_orders field p q = in_turn (entries 2 3) (entries 3 1) field p q +ℚ in_turn (entries 3 1) (entries 2 3) field p q

    abbrev triple : Field → Operator
    triple field = product_on (sizes_of model field) (on (entries 1 2) field) (both_orders field)

    abbrev rep_orders : Matrices
    rep_orders = sums (products (entries 2 3) (entries 3 1)) (products (entries 3 1) (entries 2 3))

    abbrev rep_triple : Matrices
    rep_triple = products (entries 1 2) rep_orders

    -- they are the same
    orders-agree : (field : Field) → Agree (sizes_of model field) (both_orders field) (on rep_orders field)
    orders-agree field p q h k =
        ap₂ ◌+ℚ◌ (turn-agree (entries 2 3) (entries 3 1) field p q h k) (turn-agree (entries 3 1) (entries 2 3) field p q h k)
        ∙ on_group-sum (products (entries 2 3) (entries 3 1)) (products (entries 3 1) (entries 2 3)) model.groups field.reps place p q

    triple-agree : (field : Field) → Agree (sizes_of model field) (triple field) (on rep_triple field)
    triple-agree field p q h k =
        let first = on (entries 1 2) field in
        product-agree (sizes_of model field) first first (both_orders field) (on rep_orders field) (λ s t i l. refl) (orders-agree field) p q h k
        ∙ turn-agree (entries 1 2) rep_orders field p q h k

    -- the trace on a field
    triple-traced : 3 ≤ group.n → (field : Field) → is_field model.groups field ≡ true
        → traced model.groups field.reps (triple field) ≡ cubic_of model.groups place group field
    triple-traced large field passes =
        traced-agree model.groups field.reps (triple field) (on rep_triple field) (triple-agree field)
        ∙ on-traced rep_triple field passes
        ∙ ap (λ k. whole (pos (other_size model.groups place group field)) *ℚ k) (cubic_law (rep_at field place) group.n large)

    -- the product in the cubic trace is this matrix on each field
    triple-on : IsOn (product model (X model at 1 2) (sum_of model (product model (X model at 2 3) (X model at 3 1)) (product model (X model at 3 1) (X model at 2 3)))) triple
    triple-on =
        let A = product model (X model at 2 3) (X model at 3 1) in
        let B = product model (X model at 3 1) (X model at 2 3) in
        let both = sum-on A B (in_turn (entries 2 3) (entries 3 1)) (in_turn (entries 3 1) (entries 2 3)) (X-in_turn 2 3 3 1 refl refl) (X-in_turn 3 1 2 3 refl refl) in
        product-on (X model at 1 2) (sum_of model A B) (on (entries 1 2)) both_orders (X-on 1 2 refl) both

    -- Tr(X_12 (X_23 X_31 + X_31 X_23))
    pub cubic_is : 3 ≤ group.n → cubic_trace model (place, group) ≡ whole (cubic_sum model.groups place group model.fermions)
    unfolding cubic_trace
    cubic_is large =
        let A = product model (X model at 2 3) (X model at 3 1) in
        let B = product model (X model at 3 1) (X model at 2 3) in
        trace-on (product model (X model at 1 2) (sum_of model A B)) triple (λ field. whole (cubic_share model.groups place group field)) triple-on
        (λ field passes. ap (λ k. whole (pos field.generations) *ℚ k) (triple-traced large field passes) ∙ cubic_of-times model.groups place group field)
        ∙ sum-cubic model.groups place group model.fermions
