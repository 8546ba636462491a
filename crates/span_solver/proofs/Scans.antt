-- Lemmas for the scan: the rows at the pivots, the coordinates that they give, and the first row that fails.
use Rattle.std.proofs.Common.{◌≡◌, ℕ, zero, suc, ◌+◌, ◌-◌, ◌<◌, ◌≤◌, refl, sym, ◌∙◌, ap, ap₂, subst, arith, List, [], ◌∷◌, ◌++◌, length, take, drop, get_or, Some, Bool, true, add-one, length-drop}
use Rattle.std.specs.Prelude.{◌≢◌, map}
use Rattle.std.proofs.lemmas.List.{get_or-drop, drop-drop, take_all, length-map}
use Rattle.std.proofs.Math.Seq.{drop-cons}
use Rattle.exact_algebra.specs.Ring.{zero_add}
use Rattle.exact_algebra.specs.Solver.{identity}
use Rattle.exact_algebra.specs.Solver.Term.{var, ◌⊕◌, opposite}
use Rattle.frac128.specs.Rational.{ℚ, zero_ℚ, one_ℚ, reciprocal}
use Rattle.beta_poly.specs.Polynomial.{Polynomial, poly_ring, zero_poly, add_poly, scale_poly}
use Rattle.span_solver.specs.Algebra.{polynomials}
use Rattle.span_solver.specs.Combine.{Each, scaled, combine}
use Rattle.span_solver.specs.Elimination.{HaveLength, pivots, pivots-are, select, select-map, ArePivots, done, passed, found, GapsFit}
use Rattle.span_solver.specs.Systems.{entries, IsRegular, regular-select, steps, steps-solve, AreSteps, SolvesTimes, SolvesRow, Solves, coordinates-solve, coordinates-need}
use Rattle.span_solver.specs.Scan.{FailsFirst}
use Rattle.span_solver.specs.Scanned.{valued}
use Rattle.span_solver.proofs.Opens.{entries-valued}
use Rattle.span_solver.proofs.SystemSteps.{once, poly_step}

-- ---- the rows at the pivots
pub gaps-fit : {k : ℕ} {rows : List (List ℚ)} {gs : List ℕ} → ArePivots k rows gs → GapsFit gs (length rows)
gaps-fit (done rows) = tt
gaps-fit (passed k e es g gs z p) =
    let f = gaps-fit p in
    let less : length es - suc g ≡ suc (length es) - suc (suc g) = omega arith in
    (omega (arith, f.0), subst (GapsFit gs) less f.1)
gaps-fit (found k e es j gs s p) =
    let less : length es ≡ suc (length es) - 1 = omega arith in
    (omega arith, subst (GapsFit gs) (length-map es _ ∙ less) (gaps-fit p))

select-head : {X : Type 0} (g : ℕ) (gs : List ℕ) (xs : List X) (r : X) → g < length xs → r ≡ get_or xs g r → select (g ∷ gs) xs ≡ r ∷ select gs (drop (suc g) xs)
select-head g gs [] r l e = absurd (omega arith)
select-head zero gs (x ∷ xs) r l e = ap (λ y. y ∷ select gs xs) (sym e)
select-head (suc g) gs (x ∷ xs) r l e = select-head g gs xs r (omega arith) e

pub valued-at : (at : List ℕ → Polynomial) (keys : List (List ℕ)) (rows : List (List ℚ)) (i : ℕ) (k : List ℕ) (e : List ℚ) → length keys ≡ length rows → i < length rows → k ≡ get_or keys i k → e ≡ get_or rows i e → (e, at k) ≡ get_or (valued at keys rows) i (e, at k)
valued-at at [] [] i k e m l p q = absurd (omega arith)
valued-at at [] (f ∷ rows) i k e m l p q = absurd (omega arith)
valued-at at (h ∷ keys) [] i k e m l p q = absurd (omega arith)
valued-at at (h ∷ keys) (f ∷ rows) zero k e m l p q = λ i. (q i, at (p i))
valued-at at (h ∷ keys) (f ∷ rows) (suc i) k e m l p q = valued-at at keys rows i k e (omega arith) (omega arith) p q

pub length-valued : (at : List ℕ → Polynomial) (keys : List (List ℕ)) (rows : List (List ℚ)) → length keys ≡ length rows → length (valued at keys rows) ≡ length rows
length-valued at [] [] m = refl
length-valued at [] (e ∷ rows) m = absurd (omega arith)
length-valued at (k ∷ keys) [] m = absurd (omega arith)
length-valued at (k ∷ keys) (e ∷ rows) m = ap suc (length-valued at keys rows (omega arith))

-- one pivot more
pub record AreSelected (gaps : List ℕ) (rows out : List (List ℚ × Polynomial)) (i place : ℕ) : Type 0 where
  pub within : place ≤ length rows
  pub fit : GapsFit (drop i gaps) (length rows - place)
  pub same : out ++ select (drop i gaps) (drop place rows) ≡ select gaps rows

pub gap-fits : (gaps : List ℕ) (rows out : List (List ℚ × Polynomial)) (i place : ℕ) → i < length gaps → AreSelected gaps rows out i place → place + get_or gaps i 0 < length rows
gap-fits gaps rows out i place l a =
    let f = subst (λ gs. GapsFit gs (length rows - place)) (drop-cons gaps i 0 l) a.fit in
    omega (arith, f.0)

append-cons : {X : Type 0} (xs : List X) (y : X) (ys : List X) → (xs ++ y ∷ []) ++ ys ≡ xs ++ (y ∷ ys)
append-cons [] y ys = refl
append-cons (x ∷ xs) y ys = ap (λ zs. x ∷ zs) (append-cons xs y ys)

pub selected-more : (gaps : List ℕ) (rows out new : List (List ℚ × Polynomial)) (i place : ℕ) (r : List ℚ × Polynomial) → i < length gaps → AreSelected gaps rows out i place → r ≡ get_or rows (place + get_or gaps i 0) r → new ≡ out ++ r ∷ [] → AreSelected gaps rows new (i + 1) (place + get_or gaps i 0 + 1)
selected-more gaps rows out new i place r l a e n =
    let g = get_or gaps i 0 in
    let inside = gap-fits gaps rows out i place l a in
    let rest : GapsFit (drop (suc i) gaps) (length rows - place - suc g) = (subst (λ gs. GapsFit gs (length rows - place)) (drop-cons gaps i 0 l) a.fit).1 in
    let less : length rows - place - suc g ≡ length rows - (place + g + 1) = omega arith in
    let many : g < length (drop place rows) = simp length-drop (omega arith) in
    let past : place + suc g ≡ place + g + 1 = omega arith in
    let head : select (drop i gaps) (drop place rows) ≡ r ∷ select (drop (i + 1) gaps) (drop (place + g + 1) rows) =
    ap (λ gs. select gs (drop place rows)) (drop-cons gaps i 0 l) ∙ select-head g (drop (suc i) gaps) (drop place rows) r many (e ∙ sym (get_or-drop place rows g r))
    ∙ ap₂ (λ k xs. r ∷ select (drop k gaps) xs) (sym (add-one i)) (drop-drop (suc g) place rows ∙ ap (λ k. drop k rows) past) in
    record {
      within = omega arith;
      fit = subst (λ k. GapsFit (drop k gaps) (length rows - (place + g + 1))) (sym (add-one i)) (subst (GapsFit (drop (suc i) gaps)) less rest);
      same = ap (λ xs. xs ++ select (drop (i + 1) gaps) (drop (place + g + 1) rows)) n ∙ append-cons out r (select (drop (i + 1) gaps) (drop (place + g + 1) rows))
          ∙ ap (λ xs. out ++ xs) (sym head) ∙ a.same;
    }

drop-past : {X : Type 0} (i : ℕ) (xs : List X) → length xs ≤ i → drop i xs ≡ []
drop-past zero [] l = refl
drop-past (suc i) [] l = refl
drop-past zero (x ∷ xs) l = absurd (omega arith)
drop-past (suc i) (x ∷ xs) l = drop-past i xs (omega arith)

append-none : {X : Type 0} (xs : List X) → xs ++ [] ≡ xs
append-none [] = refl
append-none (x ∷ xs) = ap (λ ys. x ∷ ys) (append-none xs)

pub selected-end : (gaps : List ℕ) (rows out : List (List ℚ × Polynomial)) (i place : ℕ) → length gaps ≤ i → AreSelected gaps rows out i place → out ≡ select gaps rows
selected-end gaps rows out i place l a =
    sym (append-none out) ∙ ap (λ gs. out ++ select gs (drop place rows)) (sym (drop-past i gaps l)) ∙ a.same

pub selected-start : (gaps : List ℕ) (rows out : List (List ℚ × Polynomial)) → GapsFit gaps (length rows) → out ≡ [] → AreSelected gaps rows out 0 0
selected-start gaps rows out f e =
    let none : length rows ≡ length rows - 0 = omega arith in
    record {
      within = omega arith;
      fit = subst (GapsFit gaps) none f;
      same = ap (λ xs. xs ++ select gaps rows) e;
    }

Each-select : {X : Type 0} (P : X → Type 0) (gs : List ℕ) (xs : List X) → Each P xs → Each P (select gs xs)
Each-select P [] xs h = tt
Each-select P (g ∷ gs) [] h = tt
Each-select P (zero ∷ gs) (x ∷ xs) h = (h.0, Each-select P gs xs h.1)
Each-select P (suc g ∷ gs) (x ∷ xs) h = Each-select P (g ∷ gs) xs h.1

system-entries : (at : List ℕ → Polynomial) (gs : List ℕ) (keys : List (List ℕ)) (rows : List (List ℚ)) (system : List (List ℚ × Polynomial)) → length keys ≡ length rows → system ≡ select gs (valued at keys rows) → entries polynomials system ≡ select gs rows
system-entries at gs keys rows system m e =
    ap (entries polynomials) e ∙ sym (select-map (λ r. r.0) gs (valued at keys rows)) ∙ ap (select gs) (entries-valued at keys rows m)

pub record IsSystem (k : ℕ) (system : List (List ℚ × Polynomial)) : Type 0 where
  pub regular : IsRegular k (entries polynomials system)
  pub many : HaveLength k (entries polynomials system)

pub system-of : (at : List ℕ → Polynomial) (k : ℕ) (gs : List ℕ) (keys : List (List ℕ)) (rows : List (List ℚ)) (system : List (List ℚ × Polynomial)) → pivots k rows ≡ Some gs → HaveLength k rows → length keys ≡ length rows → system ≡ select gs (valued at keys rows) → IsSystem k system
system-of at k gs keys rows system p h m e =
    let same = system-entries at gs keys rows system m e in
    record {
      regular = subst (IsRegular k) (sym same) (regular-select (pivots-are k rows gs p));
      many = subst (HaveLength k) (sym same) (Each-select (λ f. length f ≡ k) gs rows h);
    }

pub steps-of : (k : ℕ) (system : List (List ℚ × Polynomial)) (t : ℚ) (ns : List Polynomial) → IsSystem k system → (t, ns) ≡ steps polynomials k system → AreSteps polynomials k system (t, ns)
steps-of k system t ns s e = subst (AreSteps polynomials k system) (sym e) (steps-solve polynomials k system s.regular s.many)

solves-system : (t : ℚ) (ns : List Polynomial) (system : List (List ℚ × Polynomial)) → t ≢ zero_ℚ → Each (SolvesTimes polynomials t ns) system → Solves polynomials (scaled polynomials (reciprocal t) ns) system
solves-system t ns [] n h = tt
solves-system t ns (r ∷ system) n h = (coordinates-solve polynomials t ns r n h.0, solves-system t ns system n h.1)

length-scaled : (p : ℚ) (xs : List Polynomial) → length (scaled polynomials p xs) ≡ length xs
length-scaled p [] = refl
length-scaled p (x ∷ xs) = ap suc (length-scaled p xs)

-- the coordinates that the steps give
pub record AreFound (at : List ℕ → Polynomial) (k : ℕ) (gs : List ℕ) (keys : List (List ℕ)) (rows : List (List ℚ)) (xs : List Polynomial) : Type 0 where
  pub many : length xs ≡ k
  pub solve : Solves polynomials xs (select gs (valued at keys rows))

pub found-of : (at : List ℕ → Polynomial) (k : ℕ) (gs : List ℕ) (keys : List (List ℕ)) (rows : List (List ℚ)) (system : List (List ℚ × Polynomial)) (t : ℚ) (ns : List Polynomial) → system ≡ select gs (valued at keys rows) → AreSteps polynomials k system (t, ns) → AreFound at k gs keys rows (scaled polynomials (reciprocal t) ns)
found-of at k gs keys rows system t ns e a = record {
  many = length-scaled (reciprocal t) ns ∙ a.many;
  solve = subst (Solves polynomials (scaled polynomials (reciprocal t) ns)) e (solves-system t ns system a.other a.solve);
}

-- ---- the scan
pub solves-more : (xs : List Polynomial) (rows : List (List ℚ × Polynomial)) (i : ℕ) (r : List ℚ × Polynomial) → i < length rows → r ≡ get_or rows i r → Solves polynomials xs (take i rows) → SolvesRow polynomials xs r → Solves polynomials xs (take (i + 1) rows)
solves-more xs rows i r l e h s = subst (λ k. Solves polynomials xs (take k rows)) (sym (add-one i)) (by_place rows i l e h)
  where
    by_place : (qs : List (List ℚ × Polynomial)) (k : ℕ) → k < length qs → r ≡ get_or qs k r → Solves polynomials xs (take k qs) → Solves polynomials xs (take (suc k) qs)
    by_place [] k l e h = absurd (omega arith)
    by_place (q ∷ qs) zero l e h = (subst (SolvesRow polynomials xs) e s, tt)
    by_place (q ∷ qs) (suc k) l e h = (h.0, by_place qs k (omega arith) e h.1)

pub fails-at : (xs : List Polynomial) (rows : List (List ℚ × Polynomial)) (i : ℕ) (r : List ℚ × Polynomial) → i < length rows → r ≡ get_or rows i r → Solves polynomials xs (take i rows) → ¬ SolvesRow polynomials xs r → FailsFirst polynomials xs i rows
fails-at xs [] i r l e h s = absurd (omega arith)
fails-at xs (q ∷ rows) zero r l e h s = λ t. s (subst (SolvesRow polynomials xs) (sym e) t)
fails-at xs (q ∷ rows) (suc i) r l e h s = (h.0, fails-at xs rows i r (omega arith) e h.1 s)

pub solves-all : (at : List ℕ → Polynomial) (xs : List Polynomial) (keys : List (List ℕ)) (rows : List (List ℚ)) (i : ℕ) → length keys ≡ length rows → length rows ≤ i → Solves polynomials xs (take i (valued at keys rows)) → Solves polynomials xs (valued at keys rows)
solves-all at xs keys rows i m l h = subst (Solves polynomials xs) (take_all i (valued at keys rows) (omega (arith, length-valued at keys rows m))) h

pub row-selected : (at : List ℕ → Polynomial) (keys : List (List ℕ)) (rows : List (List ℚ)) (i : ℕ) (r : List ℚ × Polynomial) (k : List ℕ) (e : List ℚ) → length keys ≡ length rows → i < length rows → k ≡ get_or keys i k → e ≡ get_or rows i e → r ≡ (e, at k) → r ≡ get_or (valued at keys rows) i r
row-selected at keys rows i r k e m l p q h = h ∙ valued-at at keys rows i k e m l p q ∙ ap (get_or (valued at keys rows) i) (sym h)

-- ---- one row
same_by : (x y : Polynomial) → add_poly x (poly_ring.neg y) ≡ zero_poly → x ≡ y
same_by x y h =
    identity poly_ring (x ∷ y ∷ []) (var 0) ((var 0 ⊕ opposite (var 1)) ⊕ var 1) refl ∙ ap (λ z. add_poly z y) h ∙ zero_add poly_ring.semiring y

pub holds-some : (e : List ℚ) (ns : List Polynomial) (v : Polynomial) (t : ℚ) (sum rest : Polynomial) (b : Bool) → t ≢ zero_ℚ → sum ≡ combine polynomials e ns → rest ≡ poly_step one_ℚ sum t v → (b ≡ true → rest ≡ zero_poly) × (rest ≡ zero_poly → b ≡ true)
    → (b ≡ true → SolvesRow polynomials (scaled polynomials (reciprocal t) ns) (e, v)) × (SolvesRow polynomials (scaled polynomials (reciprocal t) ns) (e, v) → b ≡ true)
holds-some e ns v t sum rest b n s r h =
    let same : rest ≡ add_poly sum (poly_ring.neg (scale_poly t v)) = r ∙ ap (λ y. add_poly y (poly_ring.neg (scale_poly t v))) (once sum) in (
      λ y. coordinates-solve polynomials t ns (e, v) n (sym s ∙ same_by sum (scale_poly t v) (sym same ∙ h.0 y)),
      λ y. h.1 (same ∙ ap (λ z. add_poly z (poly_ring.neg (scale_poly t v))) (s ∙ coordinates-need polynomials t ns (e, v) n y) ∙ poly_ring.add_neg (scale_poly t v)),
    )

pub holds-none : (e : List ℚ) (ns : List Polynomial) (v : Polynomial) (t : ℚ) (sum : Polynomial) (b : Bool) → t ≢ zero_ℚ → sum ≡ combine polynomials e ns → v ≡ zero_poly → (b ≡ true → sum ≡ zero_poly) × (sum ≡ zero_poly → b ≡ true)
    → (b ≡ true → SolvesRow polynomials (scaled polynomials (reciprocal t) ns) (e, v)) × (SolvesRow polynomials (scaled polynomials (reciprocal t) ns) (e, v) → b ≡ true)
holds-none e ns v t sum b n s z h =
    let none : scale_poly t v ≡ zero_poly = ap (scale_poly t) z ∙ poly_ring.semiring.mul_zero (polynomials.constant t) in (
      λ y. coordinates-solve polynomials t ns (e, v) n (sym s ∙ h.0 y ∙ sym none),
      λ y. h.1 (s ∙ coordinates-need polynomials t ns (e, v) n y ∙ none),
    )

pub rank-there : (rank : ℕ) (keys : List (List ℕ)) (i : ℕ) (k : List ℕ) → Each (λ key. length key ≡ rank) keys → i < length keys → k ≡ get_or keys i k → length k ≡ rank
rank-there rank [] i k h l e = absurd (omega arith)
rank-there rank (j ∷ keys) zero k h l e = ap length e ∙ h.0
rank-there rank (j ∷ keys) (suc i) k h l e = rank-there rank keys i k h.1 (omega arith) e

pub length-there : (n : ℕ) (rows : List (List ℚ)) (i : ℕ) (e : List ℚ) → HaveLength n rows → i < length rows → e ≡ get_or rows i e → length e ≡ n
length-there n [] i e h l q = absurd (omega arith)
length-there n (f ∷ rows) zero e h l q = ap length q ∙ h.0
length-there n (f ∷ rows) (suc i) e h l q = length-there n rows i e h.1 (omega arith) q
