-- Answers of one check after another: the first bad trace of all.
use Rattle.std.proofs.Common.{◌≡◌, ℕ, suc, ◌+◌, ◌<◌, ◌≤◌, Bool, true, false, cond, List, [], ◌∷◌, ◌++◌, drop, length, get_or, Some, Result, Ok, Err, refl, sym, subst, ap, ◌∙◌, arith, true≢false}
use Rattle.std.specs.Prelude.{⊤, ◌==◌, filter, slice_get, ◌||◌, ◌&&◌, not}
use Rattle.std.specs.Result.{IsErrAnd}
use Rattle.std.specs.List.{All, flat_map, list_any, enumerate_from}
use Rattle.std.proofs.Math.Seq.{drop-cons}
use Rattle.std.proofs.Math.ListN.{drop_of_length-le}
use Rattle.std.proofs.lemmas.Bool.Decides.{nat_tests}
use Rattle.std.proofs.lemmas.List.{append-nil}
use Rattle.std.proofs.lemmas.List.Elements.{filter-append}
use Rattle.std.proofs.lemmas.List.FromFn.{length-enumerate_from, get_or-enumerate_from}
use Rattle.std.proofs.lemmas.Option.{slice_get_within, get_or_from_slice_get}
use Rattle.frac128.specs.Rational.{ℚ}
use Rattle.frac128.specs.declared.frac.Overflow.{Overflow as Pair}
use Rattle.beta_poly.specs.Refusals.{IsRefusedPair}
use Rattle.model_core.specs.declared.group.Group.{Group}
use Rattle.model_core.specs.declared.model.Model.{Model}
use Rattle.model_core.specs.Plain.{IsPlainCharge}
use Rattle.model_core.specs.Groups.{is_abelian}
use Rattle.model_core.specs.Valid.{has_one_abelian}
use Rattle.model_core.proofs.ValidLaws.{both}
use Rattle.model_core.specs.Anomaly.{TraceKind, Trace, is_bad, own_trace, index_trace, cubic_trace}
use Rattle.model_core.specs.Anomaly.TraceKind.{Cubic, Global}
use Rattle.anomaly_check.specs.declared.anomaly.Anomaly.{Anomaly}
use Rattle.anomaly_check.specs.declared.anomaly.AnomalyError.{AnomalyError}
use Rattle.anomaly_check.specs.declared.anomaly.AnomalyError.TheVariants.{Bad, Overflow}
use Rattle.anomaly_check.specs.Answers.{IsFirstOf, Answers, AnswersOne}

-- ---- lists of bad traces

-- one trace
pub one_trace : (model : Model) (t : Trace) (r : Result ⊤ AnomalyError) → AnswersOne t r → Answers model (filter is_bad (t ∷ [])) r
one_trace model t (Ok nothing) e = ap (λ b. cond b (t ∷ []) []) e
one_trace model t (Err (Bad anomaly)) e = subst (λ b. IsFirstOf (cond b (t ∷ []) []) anomaly) (sym e.0) e.1
one_trace model t (Err (Overflow pair)) e = absurd e

-- one trace by its value
pub told : (model : Model) (kind : TraceKind) (group : Group) (v w : ℚ) (r : Result ⊤ AnomalyError) → v ≡ w
    → AnswersOne (record { kind = kind; group = group; value = v }) r → Answers model (filter is_bad (record { kind = kind; group = group; value = w } ∷ [])) r
told model kind group v w r e given =
    one_trace model (record { kind = kind; group = group; value = w }) r (subst (λ x. AnswersOne (record { kind = kind; group = group; value = x }) r) e given)

-- a refused sum or product
pub overflowed : (model : Model) (bad : List Trace) (r : Result ⊤ AnomalyError) (pair : Pair) → IsErrAnd r (λ e. e ≡ Overflow pair) → IsRefusedPair pair.a pair.b
    → ¬ All (λ field. IsPlainCharge field.charge) model.fermions → Answers model bad r
overflowed model bad (Ok nothing) pair is refused large = absurd is
overflowed model bad (Err e) pair is refused large = subst (λ x. Answers model bad (Err x)) (sym is) (refused, λ plain. large plain.fermions)

first_of : (xs ys : List Trace) (anomaly : Anomaly) → IsFirstOf xs anomaly → IsFirstOf (xs ++ ys) anomaly
first_of [] ys anomaly e = absurd e
first_of (x ∷ xs) ys anomaly e = e

-- an error stays one where more traces are checked after it
error_stays : (model : Model) (xs ys : List Trace) (e : AnomalyError) → Answers model xs (Err e) → Answers model (xs ++ ys) (Err e)
error_stays model xs ys (Bad anomaly) given = first_of xs ys anomaly given
error_stays model xs ys (Overflow pair) given = given

pub stopped : (model : Model) (xs ys : List Trace) (e : AnomalyError) (r : Result ⊤ AnomalyError) → IsErrAnd r (λ y. y ≡ e) → Answers model (filter is_bad xs) (Err e) → Answers model (filter is_bad (xs ++ ys)) r
stopped model xs ys e (Ok nothing) is given = absurd is
stopped model xs ys e (Err y) is given =
    subst (λ bad. Answers model bad (Err y)) (sym (filter-append is_bad xs ys)) (error_stays model (filter is_bad xs) (filter is_bad ys) y (subst (λ x. Answers model (filter is_bad xs) (Err x)) (sym is) given))

-- where no trace is bad the answer is that of the others
pub passed : (xs ys : List Trace) → filter is_bad xs ≡ [] → filter is_bad (xs ++ ys) ≡ filter is_bad ys
passed xs ys none = filter-append is_bad xs ys ∙ ap (λ bad. bad ++ filter is_bad ys) none

pub went_on : (model : Model) (xs ys : List Trace) (r : Result ⊤ AnomalyError) → filter is_bad xs ≡ [] → Answers model (filter is_bad ys) r → Answers model (filter is_bad (xs ++ ys)) r
went_on model xs ys r none given = subst (λ bad. Answers model bad r) (sym (passed xs ys none)) given

-- ---- the places of groups

pub next_place : (groups : List Group) (place : ℕ) (group : Group) → slice_get groups place ≡ Some group
    → drop place (enumerate_from 0 groups) ≡ (place, group) ∷ drop (place + 1) (enumerate_from 0 groups)
next_place groups place group found =
    let within = slice_get_within groups place group found in
    let later : suc place ≡ place + 1 = omega arith in
    let inside : place < length (enumerate_from 0 groups) = omega (arith, length-enumerate_from 0 groups, within) in
    let start : 0 + place ≡ place = omega arith in
    drop-cons (enumerate_from 0 groups) place (0, group) inside
    ∙ ap (λ at. at ∷ drop (suc place) (enumerate_from 0 groups)) (get_or-enumerate_from 0 groups place (0, group) within)
    ∙ ap (λ k. (k, get_or groups place group) ∷ drop (suc place) (enumerate_from 0 groups)) start
    ∙ ap (λ g. (place, g) ∷ drop (suc place) (enumerate_from 0 groups)) (get_or_from_slice_get groups place group group found)
    ∙ ap (λ k. (place, group) ∷ drop k (enumerate_from 0 groups)) later

pub no_place : (groups : List Group) (place : ℕ) → length groups ≤ place → drop place (enumerate_from 0 groups) ≡ []
no_place groups place past = drop_of_length-le (enumerate_from 0 groups) (let same = length-enumerate_from 0 groups in omega (arith, same, past))

-- the traces of the places of the U(1)
abelian_traces : (f : ℕ × Group → List Trace) (at : ℕ × Group) (ats : List (ℕ × Group))
    → flat_map f (filter (λ at. is_abelian at.1) (at ∷ ats)) ≡ flat_map f (filter (λ at. is_abelian at.1) (at ∷ [])) ++ flat_map f (filter (λ at. is_abelian at.1) ats)
abelian_traces f at ats = by_kind (is_abelian at.1)
  where
    by_kind : (b : Bool) → flat_map f (cond b (at ∷ filter (λ at. is_abelian at.1) ats) (filter (λ at. is_abelian at.1) ats)) ≡ flat_map f (cond b (at ∷ []) []) ++ flat_map f (filter (λ at. is_abelian at.1) ats)
    by_kind true = ap (λ traces. traces ++ flat_map f (filter (λ at. is_abelian at.1) ats)) (sym (append-nil (f at)))
    by_kind false = refl

pub next_abelian : (f : ℕ × Group → List Trace) (groups : List Group) (place : ℕ) (group : Group) → slice_get groups place ≡ Some group
    → flat_map f (filter (λ at. is_abelian at.1) (drop place (enumerate_from 0 groups)))
    ≡ flat_map f (filter (λ at. is_abelian at.1) ((place, group) ∷ [])) ++ flat_map f (filter (λ at. is_abelian at.1) (drop (place + 1) (enumerate_from 0 groups)))
next_abelian f groups place group found =
    ap (λ ats. flat_map f (filter (λ at. is_abelian at.1) ats)) (next_place groups place group found)
    ∙ abelian_traces f (place, group) (drop (place + 1) (enumerate_from 0 groups))

-- ---- the one U(1)

not_true : (b : Bool) → not b ≡ true → b ≡ false
not_true true e = absurd (true≢false (sym e))
not_true false e = refl

-- there is none
pub no_abelian : (k : ℕ) (groups : List Group) → list_any is_abelian groups ≡ false → filter (λ at. is_abelian at.1) (enumerate_from k groups) ≡ []
no_abelian k [] none = refl
no_abelian k (group ∷ groups) none = by_kind (is_abelian group) none (no_abelian (k + 1) groups)
  where
    by_kind : (b : Bool) → (b || list_any is_abelian groups) ≡ false → (list_any is_abelian groups ≡ false → filter (λ at. is_abelian at.1) (enumerate_from (k + 1) groups) ≡ [])
        → cond b ((k, group) ∷ filter (λ at. is_abelian at.1) (enumerate_from (k + 1) groups)) (filter (λ at. is_abelian at.1) (enumerate_from (k + 1) groups)) ≡ []
    by_kind true e rest = absurd (true≢false e)
    by_kind false e rest = rest e

-- one of several stands first, and then none of the others
one_first : (k : ℕ) (group : Group) (groups : List Group) → not (list_any is_abelian groups) ≡ true
    → (at : ℕ × Group) × ((k, group) ∷ filter (λ at. is_abelian at.1) (enumerate_from (k + 1) groups) ≡ at ∷ [])
one_first k group groups alone = ((k, group), ap (λ ats. (k, group) ∷ ats) (no_abelian (k + 1) groups (not_true (list_any is_abelian groups) alone)))

-- or it stands at one place
pub one_abelian : (k : ℕ) (groups : List Group) → list_any is_abelian groups ≡ true → has_one_abelian groups ≡ true
    → (at : ℕ × Group) × (filter (λ at. is_abelian at.1) (enumerate_from k groups) ≡ at ∷ [])
one_abelian k [] some one = absurd (true≢false (sym some))
one_abelian k (group ∷ groups) some one = by_kind (is_abelian group) some one (one_abelian (k + 1) groups)
  where
    by_kind : (b : Bool) → (b || list_any is_abelian groups) ≡ true → (not (b && list_any is_abelian groups) && has_one_abelian groups) ≡ true
        → (list_any is_abelian groups ≡ true → has_one_abelian groups ≡ true → (at : ℕ × Group) × (filter (λ at. is_abelian at.1) (enumerate_from (k + 1) groups) ≡ at ∷ []))
        → (at : ℕ × Group) × (cond b ((k, group) ∷ filter (λ at. is_abelian at.1) (enumerate_from (k + 1) groups)) (filter (λ at. is_abelian at.1) (enumerate_from (k + 1) groups)) ≡ at ∷ [])
    by_kind true e f rest = one_first k group groups (both (not (list_any is_abelian groups)) (has_one_abelian groups) f).0
    by_kind false e f rest = rest e f

-- ---- the trace of an SU(n) alone

pub own_doublets : (model : Model) (place : ℕ) (group : Group) (v : ℚ) (r : Result ⊤ AnomalyError) → group.n ≡ 2 → v ≡ index_trace model (place, group)
    → AnswersOne (record { kind = Global; group = group; value = v }) r → Answers model (filter is_bad (own_trace model (place, group) ∷ [])) r
own_doublets model place group v r is e given =
    let two : (group.n == 2) ≡ true = grind (arith, nat_tests) in
    let own : own_trace model (place, group) ≡ record { kind = Global; group = group; value = index_trace model (place, group) } =
    ap (λ b. cond b (record { kind = Global; group = group; value = index_trace model (place, group) }) (record { kind = Cubic; group = group; value = cubic_trace model (place, group) })) two in
    subst (λ t. Answers model (filter is_bad (t ∷ [])) r) (sym own) (told model Global group v (index_trace model (place, group)) r e given)

pub own_cubic : (model : Model) (place : ℕ) (group : Group) (v : ℚ) (r : Result ⊤ AnomalyError) → (group.n ≡ 2 → ⊥) → v ≡ cubic_trace model (place, group)
    → AnswersOne (record { kind = Cubic; group = group; value = v }) r → Answers model (filter is_bad (own_trace model (place, group) ∷ [])) r
own_cubic model place group v r other e given =
    let more : (group.n == 2) ≡ false = grind (arith, nat_tests) in
    let own : own_trace model (place, group) ≡ record { kind = Cubic; group = group; value = cubic_trace model (place, group) } =
    ap (λ b. cond b (record { kind = Global; group = group; value = index_trace model (place, group) }) (record { kind = Cubic; group = group; value = cubic_trace model (place, group) })) more in
    subst (λ t. Answers model (filter is_bad (t ∷ [])) r) (sym own) (told model Cubic group v (cubic_trace model (place, group)) r e given)
