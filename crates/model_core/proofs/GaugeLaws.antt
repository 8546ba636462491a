-- The dense trace of Casimirs is a sum of Dynkin indices, so one-loop gauge betas are found from counts.
use Rattle.std.proofs.Common.{◌≡◌, ℕ, zero, suc, ◌+◌, ◌*◌, ◌-◌, ◌<◌, ◌≤◌, Bool, true, false, cond, List, [], ◌∷◌, length, take, drop, Some, refl, sym, ap, ap₂, ◌∙◌, arith, pos}
use Rattle.std.specs.Prelude.{slice_get, ◌-ℤ◌, ◌+ℤ◌, neg_ℤ, unwrap_or}
use Rattle.std.specs.List.{list_all}
use Rattle.std.proofs.lemmas.Bool.Decides.{nat_tests}
use Rattle.std.proofs.lemmas.Int.{ints}
use native.Mathlib.Nat.{mul-le-mul_right}
use Rattle.exact_algebra.specs.Solver.{identity}
use Rattle.exact_algebra.specs.Solver.Term.{var, nought, single, ◌⊕◌, ◌⊗◌, opposite}
use Rattle.exact_algebra.specs.Sums.{sum, sum-nil, sum-cons}
use Rattle.frac128.specs.Rational.{ℚ, zero_ℚ, one_ℚ, whole, ◌+ℚ◌, ◌-ℚ◌, ◌*ℚ◌, ◌/ℚ◌, neg_ℚ, reciprocal}
use Rattle.frac128.specs.RationalLaws.{ring_ℚ, *ℚ_comm, *ℚ_assoc, *ℚ-zero, zero-*ℚ, *ℚ-/ℚ_cancel}
use Rattle.frac128.specs.Whole.{whole-add, whole-mul, whole-+ℤ, whole-neg, whole_nonzero, times_inverse, reciprocal-mul, over_one}
use Rattle.su_reps.specs.declared.rep.Rep.{Rep}
use Rattle.su_reps.specs.declared.rep.Rep.TheVariants.{Singlet}
use Rattle.su_reps.specs.Operators.{dimension, casimir, doubled_index, fraction}
use Rattle.su_reps.proofs.CasimirTrace.{casimir_trace_law}
use Rattle.model_core.specs.declared.group.Group.{Group}
use Rattle.model_core.specs.declared.field.Field.{Field}
use Rattle.model_core.specs.declared.model.Model.{Model}
use Rattle.model_core.specs.GaugeBeta.{rep_at, charge_of, casimir_at, group_casimir, generator_count, fermion_sum, scalar_sum, gauge_one_loop}
use Rattle.model_core.specs.Multiplet.{dimensions, field_size, multiplicity, fermion_copies, scalar_copies, doubled_index_sum, twelfths, charge_square_sum, abelian_sixths}
use Rattle.std.proofs.lemmas.List.Sums.{sum_by-cons}
use Rattle.std.proofs.lemmas.Option.{slice_get_within}
use Rattle.model_core.specs.Groups.{is_abelian}
use Rattle.model_core.specs.Valid.{is_group, is_field, IsValid}
use Rattle.model_core.specs.Component.{Component, trace_over, fermion_components}
use Rattle.model_core.specs.Scalar.{scalar_components}
use Rattle.model_core.proofs.ValidLaws.{first_passes, field_reps, length-reps, valid_parts, parts_groups, parts_fields, parts_scalar_fields, groups_pass, all_special}
use Rattle.model_core.proofs.Traces.{fields_trace, scalars_trace}

move_first : (a b c d : ℕ) → a * (b * (c * d)) ≡ b * (a * c * d)
move_first a b c d = grind arith

move_second : (a b c : ℕ) → a * (b * c) ≡ a * c * b
move_second a b c = grind arith

one-mul : (a : ℕ) → 1 * a ≡ a
one-mul a = omega arith

regroup_index : (m g d h : ℚ) → m *ℚ (g *ℚ (d *ℚ h)) ≡ g *ℚ ((m *ℚ d) *ℚ h)
regroup_index m g d h = identity ring_ℚ (m ∷ g ∷ d ∷ h ∷ []) (var 0 ⊗ (var 1 ⊗ (var 2 ⊗ var 3))) (var 1 ⊗ ((var 0 ⊗ var 2) ⊗ var 3)) refl

regroup_copies : (t g d h : ℚ) → t *ℚ (g *ℚ (d *ℚ h)) ≡ g *ℚ ((t *ℚ d) *ℚ h)
regroup_copies t g d h = identity ring_ℚ (t ∷ g ∷ d ∷ h ∷ []) (var 0 ⊗ (var 1 ⊗ (var 2 ⊗ var 3))) (var 1 ⊗ ((var 0 ⊗ var 2) ⊗ var 3)) refl

collect : (g a b h : ℚ) → g *ℚ (a *ℚ h) +ℚ g *ℚ (b *ℚ h) ≡ g *ℚ ((a +ℚ b) *ℚ h)
collect g a b h = identity ring_ℚ (g ∷ a ∷ b ∷ h ∷ []) (var 0 ⊗ (var 1 ⊗ var 3) ⊕ var 0 ⊗ (var 2 ⊗ var 3)) (var 0 ⊗ ((var 1 ⊕ var 2) ⊗ var 3)) refl

-- the dimensions of a field with those under one group apart
pub dimensions-split : (groups : List Group) (reps : List Rep) (place : ℕ) (group : Group) (rep : Rep) → slice_get groups place ≡ Some group → slice_get reps place ≡ Some rep
    → dimensions groups reps ≡ dimension rep group.n * (dimensions (take place groups) (take place reps) * dimensions (drop (place + 1) groups) (drop (place + 1) reps))
dimensions-split [] reps place group rep found given = let never : ⊥ = cc in absurd never
dimensions-split (g ∷ groups) [] place group rep found given = let never : ⊥ = cc in absurd never
dimensions-split (g ∷ groups) (r ∷ reps) zero group rep found given =
    let same_group : g ≡ group = cc in
    let same_rep : r ≡ rep = cc in
    ap₂ (λ s h. dimension s h.n * dimensions groups reps) same_rep same_group
    ∙ ap (λ k. dimension rep group.n * k) (sym (one-mul (dimensions groups reps)))
dimensions-split (g ∷ groups) (r ∷ reps) (suc place) group rep found given =
    let more : suc place + 1 ≡ suc (place + 1) = omega arith in
    let before = dimensions (take place groups) (take place reps) in
    let after = dimensions (drop (place + 1) groups) (drop (place + 1) reps) in
    ap (λ k. dimension r g.n * k) (dimensions-split groups reps place group rep found given)
    ∙ move_first (dimension r g.n) (dimension rep group.n) before after
    ∙ ap (λ k. dimension rep group.n * (dimension r g.n * before * dimensions (drop k (g ∷ groups)) (drop k (r ∷ reps)))) (sym more)

-- ---- one field

-- the number of generators of SU(n)
abbrev special_count : Group → ℚ
special_count group = whole (pos (group.n * group.n - 1))

pub half : ℚ
half = reciprocal (whole (pos 2))

-- its number of components times its Casimir is the number of generators times its multiplicity and Dynkin index
field_casimirs : (groups : List Group) (place : ℕ) (group : Group) (field : Field) (rep : Rep) → slice_get groups place ≡ Some group → 2 ≤ group.n → slice_get field.reps place ≡ Some rep
    → whole (pos (field_size groups field)) *ℚ casimir (rep_at field place) group.n
    ≡ special_count group *ℚ (whole (pos (multiplicity groups field place * doubled_index (rep_at field place) group.n)) *ℚ half)
unfolding half
field_casimirs groups place group field rep found special given =
    let n = group.n in
    let others = dimensions (take place groups) (take place field.reps) * dimensions (drop (place + 1) groups) (drop (place + 1) field.reps) in
    let is_rep : rep_at field place ≡ rep = ap (λ o. unwrap_or o Singlet) given in
    let size : whole (pos (field_size groups field)) ≡ whole (pos (field.generations * others)) *ℚ whole (pos (dimension rep n)) =
    ap (λ k. whole (pos (field.generations * k))) (dimensions-split groups field.reps place group rep found given)
    ∙ ap (λ k. whole (pos k)) (move_second field.generations (dimension rep n) others)
    ∙ whole-mul (field.generations * others) (dimension rep n) in
    ap (λ r. whole (pos (field_size groups field)) *ℚ casimir r n) is_rep
    ∙ ap (λ k. k *ℚ casimir rep n) size
    ∙ *ℚ_assoc (whole (pos (field.generations * others))) (whole (pos (dimension rep n))) (casimir rep n)
    ∙ ap (λ k. whole (pos (field.generations * others)) *ℚ k) (casimir_trace_law rep n special)
    ∙ regroup_index (whole (pos (field.generations * others))) (special_count group) (whole (pos (doubled_index rep n))) (reciprocal (whole (pos 2)))
    ∙ ap (λ k. special_count group *ℚ (k *ℚ reciprocal (whole (pos 2)))) (sym (whole-mul (field.generations * others) (doubled_index rep n)))
    ∙ ap (λ r. special_count group *ℚ (whole (pos (field.generations * others * doubled_index r n)) *ℚ reciprocal (whole (pos 2)))) (sym is_rep)

-- ---- all fields

place_given : (reps : List Rep) (place : ℕ) → place < length reps → (rep : Rep) × (slice_get reps place ≡ Some rep)
place_given [] place h = absurd (omega arith)
place_given (r ∷ reps) zero h = (r, refl)
place_given (r ∷ reps) (suc place) h = place_given reps place (omega arith)

fields_casimirs : (copies : Field → ℕ) (groups : List Group) (place : ℕ) (group : Group) → slice_get groups place ≡ Some group → place < length groups → 2 ≤ group.n
    → (fields : List Field) → list_all (is_field groups) fields ≡ true
    → sum ring_ℚ.semiring fields (λ field. whole (pos (copies field * field_size groups field)) *ℚ casimir (rep_at field place) group.n)
    ≡ special_count group *ℚ (whole (pos (doubled_index_sum copies groups place group fields)) *ℚ half)
fields_casimirs copies groups place group found within special [] valid =
    sum-nil ring_ℚ.semiring _ ∙ sym (ap (λ k. special_count group *ℚ k) (zero-*ℚ half) ∙ *ℚ-zero (special_count group))
fields_casimirs copies groups place group found within special (field ∷ fields) valid =
    let parts = first_passes (is_field groups) field fields valid in
    let given = place_given field.reps place (omega (arith, length-reps groups field.reps (field_reps groups field parts.0))) in
    let one = multiplicity groups field place * doubled_index (rep_at field place) group.n in
    let first = copies field * one in
    let rest = doubled_index_sum copies groups place group fields in
    let size = whole (pos (field_size groups field)) in
    let times = whole (pos (copies field)) in
    let number = casimir (rep_at field place) group.n in
    let head : whole (pos (copies field * field_size groups field)) *ℚ number ≡ special_count group *ℚ (whole (pos first) *ℚ half) =
    ap (λ k. k *ℚ number) (whole-mul (copies field) (field_size groups field)) ∙ *ℚ_assoc times size number
    ∙ ap (λ k. times *ℚ k) (field_casimirs groups place group field given.0 found special given.1)
    ∙ regroup_copies times (special_count group) (whole (pos one)) half
    ∙ ap (λ k. special_count group *ℚ (k *ℚ half)) (sym (whole-mul (copies field) one)) in
    sum-cons ring_ℚ.semiring field fields _
    ∙ ap₂ ◌+ℚ◌ head (fields_casimirs copies groups place group found within special fields parts.1)
    ∙ collect (special_count group) (whole (pos first)) (whole (pos rest)) half
    ∙ ap (λ k. special_count group *ℚ (k *ℚ half)) (sym (whole-add first rest))
    ∙ ap (λ k. special_count group *ℚ (whole (pos k) *ℚ half)) (sym (sum_by-cons (λ f. copies f * (multiplicity groups f place * doubled_index (rep_at f place) group.n)) field fields))

-- ---- the beta function

-- 2/3 of half a number, 1/6 of half another, and 11/3 of a third: twelfths
twelfth_parts : (n d e : ℚ) → neg_ℚ (fraction 11 3 *ℚ n -ℚ fraction 2 3 *ℚ (d *ℚ half) -ℚ fraction 1 6 *ℚ (e *ℚ half)) ≡ (whole (pos 4) *ℚ d +ℚ e -ℚ whole (pos 44) *ℚ n) /ℚ whole (pos 12)
unfolding half
twelfth_parts n d e =
    let two = whole (pos 2) in
    let eleven = whole (pos 11) in
    let h = reciprocal (whole (pos 2)) in
    let t = reciprocal (whole (pos 3)) in
    let values = eleven ∷ t ∷ n ∷ two ∷ d ∷ h ∷ e ∷ [] in
    let inverse : two *ℚ h ≡ one_ℚ = times_inverse 2 (omega arith) in
    let sixth : reciprocal (whole (pos 6)) ≡ h *ℚ t = reciprocal-mul 2 3 (omega arith) (omega arith) (omega arith) in
    let twelfth : reciprocal (whole (pos 12)) ≡ h *ℚ (h *ℚ t) = reciprocal-mul 2 6 (omega arith) (omega arith) (omega arith) ∙ ap (λ k. h *ℚ k) sixth in
    let four_is : whole (pos 4) ≡ two *ℚ two = whole-mul 2 2 in
    let many_is : whole (pos 44) ≡ eleven *ℚ (two *ℚ two) = whole-mul 11 4 ∙ ap (λ k. eleven *ℚ k) four_is in
    let once = λ (x : ℚ). x *ℚ (t *ℚ d) +ℚ (h *ℚ (h *ℚ t)) *ℚ e -ℚ eleven *ℚ (t *ℚ n) in
    let twice = λ (x : ℚ). (x *ℚ x) *ℚ (t *ℚ d) +ℚ (h *ℚ (h *ℚ t)) *ℚ e -ℚ eleven *ℚ ((x *ℚ x) *ℚ (t *ℚ n)) in
    ap (λ s. neg_ℚ (eleven *ℚ t *ℚ n -ℚ two *ℚ t *ℚ (d *ℚ h) -ℚ one_ℚ *ℚ s *ℚ (e *ℚ h))) sixth
    ∙ identity ring_ℚ values
    (opposite (((var 0 ⊗ var 1) ⊗ var 2 ⊕ opposite ((var 3 ⊗ var 1) ⊗ (var 4 ⊗ var 5))) ⊕ opposite ((single ⊗ (var 5 ⊗ var 1)) ⊗ (var 6 ⊗ var 5))))
    (((var 3 ⊗ var 5) ⊗ (var 1 ⊗ var 4) ⊕ (var 5 ⊗ (var 5 ⊗ var 1)) ⊗ var 6) ⊕ opposite (var 0 ⊗ (var 1 ⊗ var 2))) refl
    ∙ ap once inverse
    ∙ identity ring_ℚ values
    ((single ⊗ (var 1 ⊗ var 4) ⊕ (var 5 ⊗ (var 5 ⊗ var 1)) ⊗ var 6) ⊕ opposite (var 0 ⊗ (var 1 ⊗ var 2)))
    (((single ⊗ single) ⊗ (var 1 ⊗ var 4) ⊕ (var 5 ⊗ (var 5 ⊗ var 1)) ⊗ var 6) ⊕ opposite (var 0 ⊗ ((single ⊗ single) ⊗ (var 1 ⊗ var 2)))) refl
    ∙ sym (ap twice inverse)
    ∙ identity ring_ℚ values
    ((((var 3 ⊗ var 5) ⊗ (var 3 ⊗ var 5)) ⊗ (var 1 ⊗ var 4) ⊕ (var 5 ⊗ (var 5 ⊗ var 1)) ⊗ var 6) ⊕ opposite (var 0 ⊗ (((var 3 ⊗ var 5) ⊗ (var 3 ⊗ var 5)) ⊗ (var 1 ⊗ var 2))))
    ((((var 3 ⊗ var 3) ⊗ var 4 ⊕ var 6) ⊕ opposite ((var 0 ⊗ (var 3 ⊗ var 3)) ⊗ var 2)) ⊗ (var 5 ⊗ (var 5 ⊗ var 1))) refl
    ∙ ap₂ (λ f m. (f *ℚ d +ℚ e -ℚ m *ℚ n) *ℚ (h *ℚ (h *ℚ t))) (sym four_is) (sym many_is)
    ∙ ap (λ k. (whole (pos 4) *ℚ d +ℚ e -ℚ whole (pos 44) *ℚ n) *ℚ k) (sym twelfth)

whole_difference : (d e n : ℕ) → whole (pos (4 * d + e) -ℤ pos (44 * n)) ≡ whole (pos 4) *ℚ whole (pos d) +ℚ whole (pos e) -ℚ whole (pos 44) *ℚ whole (pos n)
whole_difference d e n =
    let as_sum : pos (4 * d + e) -ℤ pos (44 * n) ≡ pos (4 * d + e) +ℤ neg_ℤ (pos (44 * n)) = omega (arith, ints) in
    ap whole as_sum ∙ whole-+ℤ (pos (4 * d + e)) (neg_ℤ (pos (44 * n)))
    ∙ ap₂ ◌+ℚ◌ (whole-add (4 * d) e ∙ ap (λ k. k +ℚ whole (pos e)) (whole-mul 4 d)) (whole-neg (pos (44 * n)) ∙ ap neg_ℚ (whole-mul 44 n))

generators_positive : (n : ℕ) → 2 ≤ n → 1 ≤ n * n - 1
generators_positive n h =
    let square : 2 * n ≤ n * n = mul-le-mul_right n h in
    omega arith

-- a trace of Casimirs over the number of generators is a sum of Dynkin indices
over_generators : (group : Group) (trace counted : ℚ) → 2 ≤ group.n → trace ≡ special_count group *ℚ counted → trace /ℚ special_count group ≡ counted
over_generators group trace counted large e =
    let generators = special_count group in
    ap (λ k. k /ℚ generators) (e ∙ *ℚ_comm generators counted) ∙ *ℚ-/ℚ_cancel counted generators (whole_nonzero (group.n * group.n - 1) (generators_positive group.n large))

-- ---- SU(n)

not_one : (group : Group) → 2 ≤ group.n → is_abelian group ≡ false
not_one group large = grind (arith, nat_tests)

special_generators : (group : Group) → is_abelian group ≡ false → generator_count group ≡ special_count group
special_generators group e = ap (λ b. cond b one_ℚ (special_count group)) e

-- the Casimir is one number on the components of a field
special_casimir : (group : Group) (place : ℕ) (c : Component) → is_abelian group ≡ false → casimir_at group place c ≡ casimir (rep_at c.field place) group.n
special_casimir group place c e = ap (λ b. cond b (charge_of c *ℚ charge_of c) (casimir (rep_at c.field place) group.n)) e

module _ (model : Model) (place : ℕ) (group : Group) (valid : IsValid model) (found : slice_get model.groups place ≡ Some group) where
  fermions_pass : list_all (is_field model.groups) model.fermions ≡ true
  fermions_pass = parts_fields model (valid_parts model valid)

  scalars_pass : list_all (is_field model.groups) model.scalars ≡ true
  scalars_pass = parts_scalar_fields model (valid_parts model valid)

  passes : list_all is_group model.groups ≡ true
  passes = groups_pass model.groups (parts_groups model (valid_parts model valid))

  within : place < length model.groups
  within = slice_get_within model.groups place group found

  fermion_sum-special : 2 ≤ group.n → fermion_sum model place group ≡ whole (pos (doubled_index_sum fermion_copies model.groups place group model.fermions)) *ℚ half
  unfolding fermion_sum
  fermion_sum-special large =
      let other = not_one group large in
      ap (λ k. trace_over model.groups (fermion_components model) (casimir_at group place) /ℚ k) (special_generators group other)
      ∙ over_generators group _ _ large (fields_trace model.groups model.fermions (casimir_at group place) (λ field. casimir (rep_at field place) group.n) (λ c. special_casimir group place c other) (all_special model.groups model.fermions passes fermions_pass)
      ∙ fields_casimirs fermion_copies model.groups place group found within large model.fermions fermions_pass)

  scalar_sum-special : 2 ≤ group.n → scalar_sum model place group ≡ whole (pos (doubled_index_sum scalar_copies model.groups place group model.scalars)) *ℚ half
  unfolding scalar_sum
  scalar_sum-special large =
      let other = not_one group large in
      ap (λ k. trace_over model.groups (scalar_components model) (casimir_at group place) /ℚ k) (special_generators group other)
      ∙ over_generators group _ _ large (scalars_trace model.groups model.scalars (casimir_at group place) (λ field. casimir (rep_at field place) group.n) (λ c. special_casimir group place c other) (all_special model.groups model.scalars passes scalars_pass)
      ∙ fields_casimirs scalar_copies model.groups place group found within large model.scalars scalars_pass)

  -- the coefficient of SU(n) as a number of twelfths
  pub gauge_one_loop-special : 2 ≤ group.n → gauge_one_loop model place group ≡ whole (twelfths model place group) /ℚ whole (pos 12)
  unfolding gauge_one_loop
  gauge_one_loop-special large =
      let d = doubled_index_sum fermion_copies model.groups place group model.fermions in
      let e = doubled_index_sum scalar_copies model.groups place group model.scalars in
      let own : group_casimir group ≡ whole (pos group.n) = ap (λ b. cond b zero_ℚ (whole (pos group.n))) (not_one group large) in
      ap (λ k. neg_ℚ (fraction 11 3 *ℚ k -ℚ fraction 2 3 *ℚ fermion_sum model place group -ℚ fraction 1 6 *ℚ scalar_sum model place group)) own
      ∙ ap₂ (λ f s. neg_ℚ (fraction 11 3 *ℚ whole (pos group.n) -ℚ fraction 2 3 *ℚ f -ℚ fraction 1 6 *ℚ s)) (fermion_sum-special large) (scalar_sum-special large)
      ∙ twelfth_parts (whole (pos group.n)) (whole (pos d)) (whole (pos e))
      ∙ ap (λ k. k /ℚ whole (pos 12)) (sym (whole_difference d e group.n))

-- ---- the U(1)

-- the Casimir is the charge squared on the components of a field and of its conjugate
abelian_casimir : (group : Group) (place : ℕ) (c : Component) → is_abelian group ≡ true → casimir_at group place c ≡ c.field.charge *ℚ c.field.charge
abelian_casimir group place c e =
    ap (λ b. cond b (charge_of c *ℚ charge_of c) (casimir (rep_at c.field place) group.n)) e ∙ by_side c.conj
  where
    by_side : (conj : Bool) → cond conj (neg_ℚ c.field.charge) c.field.charge *ℚ cond conj (neg_ℚ c.field.charge) c.field.charge ≡ c.field.charge *ℚ c.field.charge
    by_side true = identity ring_ℚ (c.field.charge ∷ []) (opposite (var 0) ⊗ opposite (var 0)) (var 0 ⊗ var 0) refl
    by_side false = refl

abelian_generators : (group : Group) (x : ℚ) → is_abelian group ≡ true → x /ℚ generator_count group ≡ x
abelian_generators group x e = ap (λ b. x /ℚ cond b one_ℚ (special_count group)) e ∙ over_one x

-- 2/3 of a number and 1/6 of another: sixths
sixth_parts : (f s : ℚ) → neg_ℚ (fraction 11 3 *ℚ zero_ℚ -ℚ fraction 2 3 *ℚ f -ℚ fraction 1 6 *ℚ s) ≡ (whole (pos 4) *ℚ f +ℚ s) *ℚ reciprocal (whole (pos 6))
sixth_parts f s =
    let two = whole (pos 2) in
    let h = reciprocal (whole (pos 2)) in
    let t = reciprocal (whole (pos 3)) in
    let inverse : two *ℚ h ≡ one_ℚ = times_inverse 2 (omega arith) in
    let sixth : reciprocal (whole (pos 6)) ≡ h *ℚ t = reciprocal-mul 2 3 (omega arith) (omega arith) (omega arith) in
    let values = whole (pos 11) ∷ t ∷ two ∷ f ∷ h ∷ s ∷ [] in
    ap (λ k. neg_ℚ (whole (pos 11) *ℚ t *ℚ zero_ℚ -ℚ two *ℚ t *ℚ f -ℚ one_ℚ *ℚ k *ℚ s)) sixth
    ∙ identity ring_ℚ values
    (opposite (((var 0 ⊗ var 1) ⊗ nought ⊕ opposite ((var 2 ⊗ var 1) ⊗ var 3)) ⊕ opposite ((single ⊗ (var 4 ⊗ var 1)) ⊗ var 5)))
    (single ⊗ ((var 2 ⊗ var 1) ⊗ var 3) ⊕ (var 4 ⊗ var 1) ⊗ var 5) refl
    ∙ ap (λ k. k *ℚ ((two *ℚ t) *ℚ f) +ℚ (h *ℚ t) *ℚ s) (sym inverse)
    ∙ identity ring_ℚ values
    ((var 2 ⊗ var 4) ⊗ ((var 2 ⊗ var 1) ⊗ var 3) ⊕ (var 4 ⊗ var 1) ⊗ var 5)
    (((var 2 ⊗ var 2) ⊗ var 3 ⊕ var 5) ⊗ (var 4 ⊗ var 1)) refl
    ∙ ap₂ (λ k l. (k *ℚ f +ℚ s) *ℚ l) (sym (whole-mul 2 2)) (sym sixth)

module _ (model : Model) (place : ℕ) (group : Group) (valid : IsValid model) (abelian : is_abelian group ≡ true) where
  small : list_all is_group model.groups ≡ true
  small = groups_pass model.groups (parts_groups model (valid_parts model valid))

  fermion_sum-abelian : fermion_sum model place group ≡ charge_square_sum fermion_copies model.groups model.fermions
  unfolding fermion_sum
  fermion_sum-abelian =
      abelian_generators group _ abelian
      ∙ fields_trace model.groups model.fermions (casimir_at group place) (λ field. field.charge *ℚ field.charge) (λ c. abelian_casimir group place c abelian) (all_special model.groups model.fermions small (parts_fields model (valid_parts model valid)))

  scalar_sum-abelian : scalar_sum model place group ≡ charge_square_sum scalar_copies model.groups model.scalars
  unfolding scalar_sum
  scalar_sum-abelian =
      abelian_generators group _ abelian
      ∙ scalars_trace model.groups model.scalars (casimir_at group place) (λ field. field.charge *ℚ field.charge) (λ c. abelian_casimir group place c abelian) (all_special model.groups model.scalars small (parts_scalar_fields model (valid_parts model valid)))

  -- the coefficient of the U(1) as a number of sixths
  pub gauge_one_loop-abelian : gauge_one_loop model place group ≡ abelian_sixths model *ℚ reciprocal (whole (pos 6))
  unfolding gauge_one_loop
  gauge_one_loop-abelian =
      let own : group_casimir group ≡ zero_ℚ = ap (λ b. cond b zero_ℚ (whole (pos group.n))) abelian in
      ap (λ k. neg_ℚ (fraction 11 3 *ℚ k -ℚ fraction 2 3 *ℚ fermion_sum model place group -ℚ fraction 1 6 *ℚ scalar_sum model place group)) own
      ∙ ap₂ (λ f s. neg_ℚ (fraction 11 3 *ℚ zero_ℚ -ℚ fraction 2 3 *ℚ f -ℚ fraction 1 6 *ℚ s)) fermion_sum-abelian scalar_sum-abelian
      ∙ sixth_parts (charge_square_sum fermion_copies model.groups model.fermions) (charge_square_sum scalar_copies model.groups model.scalars)
