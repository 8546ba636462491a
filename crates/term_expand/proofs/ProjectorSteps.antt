-- The steps of the code that works out a projector.
use Rattle.std.proofs.Common.{◌≡◌, ℕ, ◌≤◌, Bool, true, false, List, [], ◌∷◌, length, refl, arith}
use Rattle.std.specs.Prelude.{◌==◌, not}
use Rattle.frac128.specs.Rational.{one_ℚ}
use Rattle.su_reps.specs.declared.rep.Rep.{Rep}
use Rattle.su_reps.specs.declared.rep.Rep.TheVariants.{Singlet, Fund, Conj, Adjoint, Sym2, Sym2Conj, Anti2, Anti2Conj}
use Rattle.su_reps.specs.Tuples.{IsTuple, projector, same}
use Rattle.model_core.specs.declared.group.Group.{Group}
use Rattle.model_core.specs.Valid.{is_group, is_rep}
use Rattle.model_core.specs.Groups.{is_abelian}
use Rattle.model_core.proofs.ValidLaws.{between, special_size}

no_slots : (p q : List ℕ) → length p ≡ 0 → length q ≡ 0 → one_ℚ ≡ same p q
no_slots [] [] first second = refl
no_slots [] (b ∷ q) first second = absurd (omega arith)
no_slots (a ∷ p) q first second = absurd (omega arith)

other_rep : (b : Bool) → b ≡ true → not b ≡ true → ⊥
other_rep b first second = cc

-- a representation of the U(1) has no slots, and the projector 1
pub abelian_projector : (group : Group) (rep : Rep) (p q : List ℕ) → (group.n == 1) ≡ true → is_rep group rep ≡ true → IsTuple rep group.n p → IsTuple rep group.n q → one_ℚ ≡ projector rep group.n p q
abelian_projector group Singlet p q abelian valid first second = no_slots p q first.count second.count
abelian_projector group Fund p q abelian valid first second = absurd (other_rep (is_abelian group) abelian valid)
abelian_projector group Conj p q abelian valid first second = absurd (other_rep (is_abelian group) abelian valid)
abelian_projector group Adjoint p q abelian valid first second = absurd (other_rep (is_abelian group) abelian valid)
abelian_projector group Sym2 p q abelian valid first second = absurd (other_rep (is_abelian group) abelian valid)
abelian_projector group Sym2Conj p q abelian valid first second = absurd (other_rep (is_abelian group) abelian valid)
abelian_projector group Anti2 p q abelian valid first second = absurd (other_rep (is_abelian group) abelian valid)
abelian_projector group Anti2Conj p q abelian valid first second = absurd (other_rep (is_abelian group) abelian valid)

-- another group is SU(n) with n from 2
pub special_low : (group : Group) → is_group group ≡ true → (group.n == 1) ≡ false → 2 ≤ group.n
special_low group valid other = special_size group valid other

-- to 6
pub group_high : (group : Group) → is_group group ≡ true → group.n ≤ 6
group_high group valid = (between 1 6 group.n valid).1
