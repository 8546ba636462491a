-- The dense traces of products of Casimirs are sums over fields.
use Rattle.std.proofs.Common.{◌≡◌, ℕ, zero, suc, ◌+◌, ◌*◌, ◌-◌, ◌<◌, ◌≤◌, pos, Bool, true, false, cond, List, [], ◌∷◌, ◌++◌, take, drop, length, get_or, Some, refl, sym, ap, ap₂, ◌∙◌, arith}
use Rattle.std.specs.Prelude.{slice_get, unwrap_or, ◌-ℤ◌, ◌+ℤ◌, neg_ℤ}
use Rattle.std.specs.List.{list_all}
use Rattle.std.proofs.lemmas.Grind.{take_at_read}
use Rattle.std.proofs.lemmas.Int.{ints}
use Rattle.std.proofs.lemmas.List.Sums.{sum_by-cons}
use Rattle.std.proofs.lemmas.Option.{slice_get_within}
use native.Mathlib.Nat.{mul-le-mul_right}
use Rattle.exact_algebra.specs.Solver.{identity}
use Rattle.exact_algebra.specs.Solver.Term.{var, nought, single, ◌⊕◌, ◌⊗◌, opposite}
use Rattle.exact_algebra.specs.Sums.{sum, sum-nil, sum-cons, sum-one, sum-append}
use Rattle.frac128.specs.Rational.{ℚ, zero_ℚ, one_ℚ, whole, ◌+ℚ◌, ◌-ℚ◌, ◌*ℚ◌, ◌/ℚ◌, neg_ℚ, reciprocal}
use Rattle.frac128.specs.RationalLaws.{ring_ℚ, *ℚ_assoc, *ℚ-one, one-*ℚ}
use Rattle.frac128.specs.Whole.{whole-add, whole-mul, whole-+ℤ, whole-neg, times_inverse, reciprocal-mul}
use Rattle.su_reps.specs.declared.rep.Rep.{Rep}
use Rattle.su_reps.specs.declared.rep.Rep.TheVariants.{Singlet}
use Rattle.su_reps.specs.Operators.{dimension, casimir, doubled_index, fraction}
use Rattle.su_reps.proofs.CasimirTrace.{casimir_trace_law}
use Rattle.model_core.specs.declared.group.Group.{Group}
use Rattle.model_core.specs.declared.field.Field.{Field}
use Rattle.model_core.specs.declared.model.Model.{Model}
use Rattle.model_core.specs.declared.term.TermKind.{TermKind}
use Rattle.model_core.specs.declared.term.TermKind.TheVariants.{Fermion, Scalar}
use Rattle.model_core.specs.Component.{Component, trace_over, fermion_components}
use Rattle.model_core.specs.GaugeBeta.{rep_at, casimir_at, group_casimir, generator_count, fermion_sum, scalar_sum}
use Rattle.model_core.specs.GaugeTwoLoop.{mixed_number, own_number}
use Rattle.model_core.specs.Groups.{is_abelian}
use Rattle.model_core.specs.Multiplet.{dimensions, field_size, multiplicity, fermion_copies, scalar_copies, doubled_index_sum}
use Rattle.model_core.specs.Scalar.{scalar_components}
use Rattle.model_core.specs.Valid.{is_group, is_field, are_groups, IsValid}
use Rattle.model_core.proofs.Dimensions.{group_passes_at}
use Rattle.model_core.proofs.GaugeLaws.{dimensions-split}
use Rattle.model_core.proofs.Traces.{fields_trace, scalars_trace}
use Rattle.model_core.proofs.ValidLaws.{first_passes, field_reps, length-reps, valid_parts, parts_groups, parts_fields, parts_scalar_fields, groups_pass, all_special, special_size}
use Rattle.gauge_two_loop.specs.Casimirs.{field_casimir, copies, weight, pair_sum}

-- ---- one field more

pub pair_sum-more : (kind : TermKind) (groups : List Group) (k l : ℕ × Group) (fields : List Field) (i : ℕ) (field : Field) → field ≡ get_or fields i field → i < length fields
    → pair_sum kind groups k l (take (i + 1) fields) ≡ pair_sum kind groups k l (take i fields) +ℚ weight groups k (copies kind field) field *ℚ field_casimir l field
pair_sum-more kind groups k l fields i field is within =
    let one = λ (f : Field). weight groups k (copies kind f) f *ℚ field_casimir l f in
    ap (pair_sum kind groups k l) ((take_at_read fields i field within).1 ∙ ap (λ f. take i fields ++ f ∷ []) (sym is))
    ∙ sum-append ring_ℚ.semiring (take i fields) (field ∷ []) one
    ∙ ap (λ s. pair_sum kind groups k l (take i fields) +ℚ s) (sum-one ring_ℚ.semiring field one)

-- ---- one field

sides : (q : ℚ) (conj : Bool) → cond conj (neg_ℚ q) q *ℚ cond conj (neg_ℚ q) q ≡ q *ℚ q
sides q true = identity ring_ℚ (q ∷ []) (opposite (var 0) ⊗ opposite (var 0)) (var 0 ⊗ var 0) refl
sides q false = refl

-- the Casimir is one number on the components of a field and of its conjugate
pub casimir_of_field : (k : ℕ × Group) (c : Component) → casimir_at k.1 k.0 c ≡ field_casimir k c.field
casimir_of_field k c = ap (λ x. cond (is_abelian k.1) x (casimir (rep_at c.field k.0) k.1.n)) (sides c.field.charge c.conj)

half : ℚ
half = reciprocal (whole (pos 2))

-- the number of generators of SU(n)
abbrev special_count : Group → ℚ
special_count group = whole (pos (group.n * group.n - 1))

pub count-abelian : (group : Group) → is_abelian group ≡ true → generator_count group ≡ one_ℚ
count-abelian group e = ap (λ b. cond b one_ℚ (special_count group)) e

pub count-special : (group : Group) → is_abelian group ≡ false → generator_count group ≡ whole (pos (group.n * group.n - 1))
count-special group e = ap (λ b. cond b one_ℚ (special_count group)) e

generators_positive : (n : ℕ) → 2 ≤ n → 1 ≤ n * n - 1
generators_positive n h =
    let square : 2 * n ≤ n * n = mul-le-mul_right n h in
    omega arith

place_given : (reps : List Rep) (place : ℕ) → place < length reps → (rep : Rep) × (slice_get reps place ≡ Some rep)
place_given [] place h = absurd (omega arith)
place_given (r ∷ reps) zero h = (r, refl)
place_given (r ∷ reps) (suc place) h = place_given reps place (omega arith)

move_second : (a b c : ℕ) → a * (b * c) ≡ a * c * b
move_second a b c = grind arith

regroup_index : (m g d h : ℚ) → m *ℚ (g *ℚ (d *ℚ h)) ≡ g *ℚ ((m *ℚ d) *ℚ h)
regroup_index m g d h = identity ring_ℚ (m ∷ g ∷ d ∷ h ∷ []) (var 0 ⊗ (var 1 ⊗ (var 2 ⊗ var 3))) (var 1 ⊗ ((var 0 ⊗ var 2) ⊗ var 3)) refl

-- how often a field has its representation, times twice the Dynkin index
abbrev index_share : List Group → ℕ × Group → Field → ℕ
index_share groups k field = multiplicity groups field k.0 * doubled_index (rep_at field k.0) k.1.n

-- the number of components times the Casimir is the number of generators times half of that
size_casimir : (groups : List Group) (k : ℕ × Group) (field : Field) (rep : Rep) → slice_get groups k.0 ≡ Some k.1 → 2 ≤ k.1.n → slice_get field.reps k.0 ≡ Some rep
    → whole (pos (field_size groups field)) *ℚ casimir (rep_at field k.0) k.1.n ≡ special_count k.1 *ℚ (whole (pos (index_share groups k field)) *ℚ half)
unfolding half
size_casimir groups k field rep found special given =
    let place = k.0 in
    let group = k.1 in
    let n = group.n in
    let others = dimensions (take place groups) (take place field.reps) * dimensions (drop (place + 1) groups) (drop (place + 1) field.reps) in
    let is_rep : rep_at field place ≡ rep = ap (λ o. unwrap_or o Singlet) given in
    let size : whole (pos (field_size groups field)) ≡ whole (pos (field.generations * others)) *ℚ whole (pos (dimension rep n)) =
    ap (λ k. whole (pos (field.generations * k))) (dimensions-split groups field.reps place group rep found given)
    ∙ ap (λ k. whole (pos k)) (move_second field.generations (dimension rep n) others)
    ∙ whole-mul (field.generations * others) (dimension rep n) in
    ap (λ r. whole (pos (field_size groups field)) *ℚ casimir r n) is_rep
    ∙ ap (λ k. k *ℚ casimir rep n) size
    ∙ *ℚ_assoc (whole (pos (field.generations * others))) (whole (pos (dimension rep n))) (casimir rep n)
    ∙ ap (λ k. whole (pos (field.generations * others)) *ℚ k) (casimir_trace_law rep n special)
    ∙ regroup_index (whole (pos (field.generations * others))) (special_count group) (whole (pos (doubled_index rep n))) (reciprocal (whole (pos 2)))
    ∙ ap (λ k. special_count group *ℚ (k *ℚ reciprocal (whole (pos 2)))) (sym (whole-mul (field.generations * others) (doubled_index rep n)))
    ∙ ap (λ r. special_count group *ℚ (whole (pos (field.generations * others * doubled_index r n)) *ℚ reciprocal (whole (pos 2)))) (sym is_rep)

two_halves : whole (pos 2) *ℚ half ≡ one_ℚ
unfolding half
two_halves = times_inverse 2 (omega arith)

-- a group at its place with its generators
record IsPlace (groups : List Group) (k : ℕ × Group) : Type 0 where
  valid : are_groups groups ≡ true
  found : slice_get groups k.0 ≡ Some k.1

module _ (groups : List Group) (k : ℕ × Group) (at : IsPlace groups k) where
  special_at : is_abelian k.1 ≡ false → 2 ≤ k.1.n
  special_at e = special_size k.1 (group_passes_at groups k.0 k.1 at.valid at.found) e

  weight-abelian : (count : ℕ) (field : Field) → is_abelian k.1 ≡ true → weight groups k count field ≡ whole (pos (2 * (count * field_size groups field))) *ℚ (field.charge *ℚ field.charge)
  weight-abelian count field e =
      ap (λ b. cond b (whole (pos (2 * (count * field_size groups field))) *ℚ (field.charge *ℚ field.charge)) (whole (pos (count * index_share groups k field)))) e

  weight-special : (count : ℕ) (field : Field) → is_abelian k.1 ≡ false → weight groups k count field ≡ whole (pos (count * index_share groups k field))
  weight-special count field e =
      ap (λ b. cond b (whole (pos (2 * (count * field_size groups field))) *ℚ (field.charge *ℚ field.charge)) (whole (pos (count * index_share groups k field)))) e

  casimir-abelian : (field : Field) → is_abelian k.1 ≡ true → field_casimir k field ≡ field.charge *ℚ field.charge
  casimir-abelian field e = ap (λ b. cond b (field.charge *ℚ field.charge) (casimir (rep_at field k.0) k.1.n)) e

  casimir-special : (field : Field) → is_abelian k.1 ≡ false → field_casimir k field ≡ casimir (rep_at field k.0) k.1.n
  casimir-special field e = ap (λ b. cond b (field.charge *ℚ field.charge) (casimir (rep_at field k.0) k.1.n)) e

  -- the number of generators has an inverse
  generators_inverse : generator_count k.1 *ℚ reciprocal (generator_count k.1) ≡ one_ℚ
  generators_inverse = by_kind (is_abelian k.1) refl
    where
      by_kind : (b : Bool) → is_abelian k.1 ≡ b → generator_count k.1 *ℚ reciprocal (generator_count k.1) ≡ one_ℚ
      by_kind true e = ap (λ g. g *ℚ reciprocal g) (count-abelian k.1 e) ∙ times_inverse 1 (omega arith)
      by_kind false e = ap (λ g. g *ℚ reciprocal g) (count-special k.1 e) ∙ times_inverse (k.1.n * k.1.n - 1) (generators_positive k.1.n (special_at e))

  -- twice the trace over a field's copies is the number of generators times its weight
  field_weight : (count : ℕ) (field : Field) → is_field groups field ≡ true
      → whole (pos 2) *ℚ (whole (pos (count * field_size groups field)) *ℚ field_casimir k field) ≡ generator_count k.1 *ℚ weight groups k count field
  field_weight count field valid = by_kind (is_abelian k.1) refl
    where
      by_kind : (b : Bool) → is_abelian k.1 ≡ b → whole (pos 2) *ℚ (whole (pos (count * field_size groups field)) *ℚ field_casimir k field) ≡ generator_count k.1 *ℚ weight groups k count field
      by_kind true e =
          ap (λ c. whole (pos 2) *ℚ (whole (pos (count * field_size groups field)) *ℚ c)) (casimir-abelian field e)
          ∙ sym (*ℚ_assoc (whole (pos 2)) (whole (pos (count * field_size groups field))) (field.charge *ℚ field.charge))
          ∙ ap (λ n. n *ℚ (field.charge *ℚ field.charge)) (sym (whole-mul 2 (count * field_size groups field)))
          ∙ sym (one-*ℚ (whole (pos (2 * (count * field_size groups field))) *ℚ (field.charge *ℚ field.charge)))
          ∙ ap₂ ◌*ℚ◌ (sym (count-abelian k.1 e)) (sym (weight-abelian count field e))
      by_kind false e =
          let given = place_given field.reps k.0 (omega (arith, slice_get_within groups k.0 k.1 at.found, length-reps groups field.reps (field_reps groups field valid))) in
          let index = whole (pos (index_share groups k field)) in
          let generators = special_count k.1 in
          let times = whole (pos count) in
          ap (λ c. whole (pos 2) *ℚ (whole (pos (count * field_size groups field)) *ℚ c)) (casimir-special field e)
          ∙ ap (λ n. whole (pos 2) *ℚ (n *ℚ casimir (rep_at field k.0) k.1.n)) (whole-mul count (field_size groups field))
          ∙ ap (λ x. whole (pos 2) *ℚ x) (*ℚ_assoc times (whole (pos (field_size groups field))) (casimir (rep_at field k.0) k.1.n))
          ∙ ap (λ x. whole (pos 2) *ℚ (times *ℚ x)) (size_casimir groups k field given.0 at.found (special_at e) given.1)
          ∙ identity ring_ℚ (whole (pos 2) ∷ times ∷ generators ∷ index ∷ half ∷ []) (var 0 ⊗ (var 1 ⊗ (var 2 ⊗ (var 3 ⊗ var 4)))) ((var 0 ⊗ var 4) ⊗ (var 2 ⊗ (var 1 ⊗ var 3))) refl
          ∙ ap (λ x. x *ℚ (generators *ℚ (times *ℚ index))) two_halves
          ∙ one-*ℚ (generators *ℚ (times *ℚ index))
          ∙ ap (λ x. generators *ℚ x) (sym (whole-mul count (index_share groups k field)))
          ∙ ap₂ ◌*ℚ◌ (sym (count-special k.1 e)) (sym (weight-special count field e))

  -- ---- all fields

  -- the summand of one field
  one_weight : (count : ℕ) (field : Field) (h : ℚ) → is_field groups field ≡ true
      → whole (pos 2) *ℚ (whole (pos (count * field_size groups field)) *ℚ (field_casimir k field *ℚ h) /ℚ generator_count k.1) ≡ weight groups k count field *ℚ h
  one_weight count field h valid =
      let size = whole (pos (count * field_size groups field)) in
      let number = field_casimir k field in
      let generators = generator_count k.1 in
      let inverse = reciprocal (generator_count k.1) in
      let share = weight groups k count field in
      identity ring_ℚ (whole (pos 2) ∷ size ∷ number ∷ h ∷ inverse ∷ []) (var 0 ⊗ ((var 1 ⊗ (var 2 ⊗ var 3)) ⊗ var 4)) ((var 0 ⊗ (var 1 ⊗ var 2)) ⊗ (var 3 ⊗ var 4)) refl
      ∙ ap (λ x. x *ℚ (h *ℚ inverse)) (field_weight count field valid)
      ∙ identity ring_ℚ (generators ∷ share ∷ h ∷ inverse ∷ []) ((var 0 ⊗ var 1) ⊗ (var 2 ⊗ var 3)) ((var 0 ⊗ var 3) ⊗ (var 1 ⊗ var 2)) refl
      ∙ ap (λ x. x *ℚ (share *ℚ h)) generators_inverse
      ∙ one-*ℚ (share *ℚ h)

  sum_weights : (count : Field → ℕ) (h : Field → ℚ) (fields : List Field) → list_all (is_field groups) fields ≡ true
      → whole (pos 2) *ℚ (sum ring_ℚ.semiring fields (λ field. whole (pos (count field * field_size groups field)) *ℚ (field_casimir k field *ℚ h field)) /ℚ generator_count k.1)
      ≡ sum ring_ℚ.semiring fields (λ field. weight groups k (count field) field *ℚ h field)
  sum_weights count h [] valid =
      ap (λ s. whole (pos 2) *ℚ (s /ℚ generator_count k.1)) (sum-nil ring_ℚ.semiring _)
      ∙ identity ring_ℚ (whole (pos 2) ∷ reciprocal (generator_count k.1) ∷ []) (var 0 ⊗ (nought ⊗ var 1)) nought refl
      ∙ sym (sum-nil ring_ℚ.semiring _)
  sum_weights count h (field ∷ fields) valid =
      let parts = first_passes (is_field groups) field fields valid in
      let one = λ (f : Field). whole (pos (count f * field_size groups f)) *ℚ (field_casimir k f *ℚ h f) in
      let rest = sum ring_ℚ.semiring fields one in
      ap (λ s. whole (pos 2) *ℚ (s /ℚ generator_count k.1)) (sum-cons ring_ℚ.semiring field fields one)
      ∙ identity ring_ℚ (whole (pos 2) ∷ one field ∷ rest ∷ reciprocal (generator_count k.1) ∷ []) (var 0 ⊗ ((var 1 ⊕ var 2) ⊗ var 3)) (var 0 ⊗ (var 1 ⊗ var 3) ⊕ var 0 ⊗ (var 2 ⊗ var 3)) refl
      ∙ ap₂ ◌+ℚ◌ (one_weight (count field) field (h field) parts.0) (sum_weights count h fields parts.1)
      ∙ sym (sum-cons ring_ℚ.semiring field fields (λ f. weight groups k (count f) f *ℚ h f))

  -- under SU(n) the weights are twice the sum of Dynkin indices
  sum-special : (count : Field → ℕ) (fields : List Field) → is_abelian k.1 ≡ false
      → sum ring_ℚ.semiring fields (λ field. weight groups k (count field) field *ℚ one_ℚ) ≡ whole (pos (doubled_index_sum count groups k.0 k.1 fields))
  sum-special count [] e = sum-nil ring_ℚ.semiring _
  sum-special count (field ∷ fields) e =
      let share = count field * index_share groups k field in
      let rest = doubled_index_sum count groups k.0 k.1 fields in
      sum-cons ring_ℚ.semiring field fields _
      ∙ ap₂ ◌+ℚ◌ (*ℚ-one (weight groups k (count field) field) ∙ weight-special (count field) field e) (sum-special count fields e)
      ∙ sym (whole-add share rest)
      ∙ ap (λ n. whole (pos n)) (sym (sum_by-cons (λ f. count f * index_share groups k f) field fields))

-- ---- a model

module _ (model : Model) (valid : IsValid model) where
  small : list_all is_group model.groups ≡ true
  small = groups_pass model.groups (parts_groups model (valid_parts model valid))

  fermions_pass : list_all (is_field model.groups) model.fermions ≡ true
  fermions_pass = parts_fields model (valid_parts model valid)

  scalars_pass : list_all (is_field model.groups) model.scalars ≡ true
  scalars_pass = parts_scalar_fields model (valid_parts model valid)

  place_of : (k : ℕ × Group) → slice_get model.groups k.0 ≡ Some k.1 → IsPlace model.groups k
  place_of k found = record { valid = parts_groups model (valid_parts model valid); found = found }

  -- the matrix of a component is a number of its field
  fermion_weights : (k : ℕ × Group) (matrix : Component → ℚ) (h : Field → ℚ) → slice_get model.groups k.0 ≡ Some k.1 → ((c : Component) → matrix c ≡ field_casimir k c.field *ℚ h c.field)
      → whole (pos 2) *ℚ (trace_over model.groups (fermion_components model) matrix /ℚ generator_count k.1) ≡ sum ring_ℚ.semiring model.fermions (λ field. weight model.groups k (fermion_copies field) field *ℚ h field)
  fermion_weights k matrix h found same =
      ap (λ t. whole (pos 2) *ℚ (t /ℚ generator_count k.1)) (fields_trace model.groups model.fermions matrix (λ field. field_casimir k field *ℚ h field) same (all_special model.groups model.fermions small fermions_pass))
      ∙ sum_weights model.groups k (place_of k found) fermion_copies h model.fermions fermions_pass

  scalar_weights : (k : ℕ × Group) (matrix : Component → ℚ) (h : Field → ℚ) → slice_get model.groups k.0 ≡ Some k.1 → ((c : Component) → matrix c ≡ field_casimir k c.field *ℚ h c.field)
      → whole (pos 2) *ℚ (trace_over model.groups (scalar_components model) matrix /ℚ generator_count k.1) ≡ sum ring_ℚ.semiring model.scalars (λ field. weight model.groups k (scalar_copies field) field *ℚ h field)
  scalar_weights k matrix h found same =
      ap (λ t. whole (pos 2) *ℚ (t /ℚ generator_count k.1)) (scalars_trace model.groups model.scalars matrix (λ field. field_casimir k field *ℚ h field) same (all_special model.groups model.scalars small scalars_pass))
      ∙ sum_weights model.groups k (place_of k found) scalar_copies h model.scalars scalars_pass

  -- the mixed number as sums over fields
  pub mixed-sums : (k l : ℕ × Group) → slice_get model.groups k.0 ≡ Some k.1 → mixed_number model k l ≡ pair_sum Fermion model.groups k l model.fermions +ℚ pair_sum Scalar model.groups k l model.scalars
  unfolding mixed_number
  mixed-sums k l found =
      let both = λ (c : Component). casimir_at k.1 k.0 c *ℚ casimir_at l.1 l.0 c in
      let same = λ (c : Component). ap₂ ◌*ℚ◌ (casimir_of_field k c) (casimir_of_field l c) in
      ap₂ ◌+ℚ◌ (fermion_weights k both (field_casimir l) found same) (scalar_weights k both (field_casimir l) found same)

  -- ---- the gauge bosons' own number

  pub own-abelian : (k : ℕ × Group) → is_abelian k.1 ≡ true → neg_ℚ (own_number model k) ≡ zero_ℚ
  unfolding own_number
  own-abelian k e =
      let f = fermion_sum model k.0 k.1 in
      let s = scalar_sum model k.0 k.1 in
      let own : group_casimir k.1 ≡ zero_ℚ = ap (λ b. cond b zero_ℚ (whole (pos k.1.n))) e in
      ap (λ c. neg_ℚ (fraction 34 3 *ℚ (c *ℚ c) -ℚ fraction 10 3 *ℚ (c *ℚ f) -ℚ fraction 1 3 *ℚ (c *ℚ s))) own
      ∙ identity ring_ℚ (fraction 34 3 ∷ fraction 10 3 ∷ fraction 1 3 ∷ f ∷ s ∷ [])
      (opposite ((var 0 ⊗ (nought ⊗ nought) ⊕ opposite (var 1 ⊗ (nought ⊗ var 3))) ⊕ opposite (var 2 ⊗ (nought ⊗ var 4)))) nought refl

  without_two : (x y : ℚ) → whole (pos 2) *ℚ x ≡ y → x ≡ y *ℚ half
  without_two x y e =
      sym (one-*ℚ x) ∙ ap (λ o. o *ℚ x) (sym two_halves)
      ∙ identity ring_ℚ (whole (pos 2) ∷ half ∷ x ∷ []) ((var 0 ⊗ var 1) ⊗ var 2) ((var 0 ⊗ var 2) ⊗ var 1) refl
      ∙ ap (λ z. z *ℚ half) e

  casimir_once : (k : ℕ × Group) (c : Component) → casimir_at k.1 k.0 c ≡ field_casimir k c.field *ℚ one_ℚ
  casimir_once k c = casimir_of_field k c ∙ sym (*ℚ-one (field_casimir k c.field))

  fermion_sum-half : (k : ℕ × Group) → slice_get model.groups k.0 ≡ Some k.1 → is_abelian k.1 ≡ false
      → fermion_sum model k.0 k.1 ≡ whole (pos (doubled_index_sum fermion_copies model.groups k.0 k.1 model.fermions)) *ℚ half
  unfolding fermion_sum
  fermion_sum-half k found e =
      without_two _ _ (fermion_weights k (casimir_at k.1 k.0) (λ _. one_ℚ) found (casimir_once k) ∙ sum-special model.groups k (place_of k found) fermion_copies model.fermions e)

  scalar_sum-half : (k : ℕ × Group) → slice_get model.groups k.0 ≡ Some k.1 → is_abelian k.1 ≡ false
      → scalar_sum model k.0 k.1 ≡ whole (pos (doubled_index_sum scalar_copies model.groups k.0 k.1 model.scalars)) *ℚ half
  unfolding scalar_sum
  scalar_sum-half k found e =
      without_two _ _ (scalar_weights k (casimir_at k.1 k.0) (λ _. one_ℚ) found (casimir_once k) ∙ sum-special model.groups k (place_of k found) scalar_copies model.scalars e)

  -- 34/3 of n^2, 10/3 of n times half a number and 1/3 of n times half another: sixths
  sixth_parts : (n d e : ℚ) → neg_ℚ (fraction 34 3 *ℚ (n *ℚ n) -ℚ fraction 10 3 *ℚ (n *ℚ (d *ℚ half)) -ℚ fraction 1 3 *ℚ (n *ℚ (e *ℚ half)))
      ≡ (n *ℚ (whole (pos 10) *ℚ d +ℚ e) -ℚ whole (pos 68) *ℚ (n *ℚ n)) /ℚ whole (pos 6)
  unfolding half
  sixth_parts n d e =
      let two = whole (pos 2) in
      let ten = whole (pos 10) in
      let many = whole (pos 34) in
      let h = reciprocal (whole (pos 2)) in
      let t = reciprocal (whole (pos 3)) in
      let values = many ∷ ten ∷ t ∷ n ∷ d ∷ h ∷ e ∷ two ∷ [] in
      let inverse : two *ℚ h ≡ one_ℚ = times_inverse 2 (omega arith) in
      let sixth : reciprocal (whole (pos 6)) ≡ h *ℚ t = reciprocal-mul 2 3 (omega arith) (omega arith) (omega arith) in
      let doubled : whole (pos 68) ≡ many *ℚ two = whole-mul 34 2 in
      let rest = n *ℚ (ten *ℚ d +ℚ e) *ℚ (h *ℚ t) in
      identity ring_ℚ values
      (opposite (((var 0 ⊗ var 2) ⊗ (var 3 ⊗ var 3) ⊕ opposite ((var 1 ⊗ var 2) ⊗ (var 3 ⊗ (var 4 ⊗ var 5)))) ⊕ opposite ((single ⊗ var 2) ⊗ (var 3 ⊗ (var 6 ⊗ var 5)))))
      (var 3 ⊗ (var 1 ⊗ var 4 ⊕ var 6) ⊗ (var 5 ⊗ var 2) ⊕ opposite (single ⊗ (var 0 ⊗ (var 3 ⊗ var 3) ⊗ var 2))) refl
      ∙ ap (λ o. rest -ℚ o *ℚ (many *ℚ (n *ℚ n) *ℚ t)) (sym inverse)
      ∙ identity ring_ℚ values
      (var 3 ⊗ (var 1 ⊗ var 4 ⊕ var 6) ⊗ (var 5 ⊗ var 2) ⊕ opposite ((var 7 ⊗ var 5) ⊗ (var 0 ⊗ (var 3 ⊗ var 3) ⊗ var 2)))
      ((var 3 ⊗ (var 1 ⊗ var 4 ⊕ var 6) ⊕ opposite ((var 0 ⊗ var 7) ⊗ (var 3 ⊗ var 3))) ⊗ (var 5 ⊗ var 2)) refl
      ∙ ap₂ (λ m s. (n *ℚ (ten *ℚ d +ℚ e) -ℚ m *ℚ (n *ℚ n)) *ℚ s) (sym doubled) (sym sixth)

  whole_difference : (n d e : ℕ) → whole (pos (n * (10 * d + e)) -ℤ pos (68 * (n * n))) ≡ whole (pos n) *ℚ (whole (pos 10) *ℚ whole (pos d) +ℚ whole (pos e)) -ℚ whole (pos 68) *ℚ (whole (pos n) *ℚ whole (pos n))
  whole_difference n d e =
      let as_sum : pos (n * (10 * d + e)) -ℤ pos (68 * (n * n)) ≡ pos (n * (10 * d + e)) +ℤ neg_ℤ (pos (68 * (n * n))) = omega (arith, ints) in
      ap whole as_sum ∙ whole-+ℤ (pos (n * (10 * d + e))) (neg_ℤ (pos (68 * (n * n))))
      ∙ ap₂ ◌+ℚ◌
      (whole-mul n (10 * d + e) ∙ ap (λ x. whole (pos n) *ℚ x) (whole-add (10 * d) e ∙ ap (λ x. x +ℚ whole (pos e)) (whole-mul 10 d)))
      (whole-neg (pos (68 * (n * n))) ∙ ap neg_ℚ (whole-mul 68 (n * n) ∙ ap (λ x. whole (pos 68) *ℚ x) (whole-mul n n)))

  pub own-special : (k : ℕ × Group) → slice_get model.groups k.0 ≡ Some k.1 → is_abelian k.1 ≡ false
      → neg_ℚ (own_number model k)
      ≡ whole (pos (k.1.n * (10 * doubled_index_sum fermion_copies model.groups k.0 k.1 model.fermions + doubled_index_sum scalar_copies model.groups k.0 k.1 model.scalars)) -ℤ pos (68 * (k.1.n * k.1.n))) /ℚ whole (pos 6)
  unfolding own_number
  own-special k found other =
      let n = k.1.n in
      let d = doubled_index_sum fermion_copies model.groups k.0 k.1 model.fermions in
      let e = doubled_index_sum scalar_copies model.groups k.0 k.1 model.scalars in
      let own : group_casimir k.1 ≡ whole (pos n) = ap (λ b. cond b zero_ℚ (whole (pos n))) other in
      let number = λ (c f s : ℚ). neg_ℚ (fraction 34 3 *ℚ (c *ℚ c) -ℚ fraction 10 3 *ℚ (c *ℚ f) -ℚ fraction 1 3 *ℚ (c *ℚ s)) in
      ap (λ c. number c (fermion_sum model k.0 k.1) (scalar_sum model k.0 k.1)) own
      ∙ ap₂ (number (whole (pos n))) (fermion_sum-half k found other) (scalar_sum-half k found other)
      ∙ sixth_parts (whole (pos n)) (whole (pos d)) (whole (pos e))
      ∙ ap (λ x. x /ℚ whole (pos 6)) (sym (whole_difference n d e))
