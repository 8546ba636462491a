-- What the scan finds is the answer.
use Rattle.std.specs.Prelude.{◌≡◌, ◌≢◌, ℕ, zero, suc, ◌<◌, get_or, List, [], ◌∷◌, length, replicate, Option, None, Some, slice_get, MatchOption, IsNone}
use Rattle.std.proofs.Common.{refl, sym, ap, ap₂, ◌∙◌, subst, arith, Ordering, Less, Equal, Greater}
use Rattle.std.proofs.lemmas.Option.{slice_get_within, get_or_from_slice_get, slice_get_read}
use Rattle.exact_algebra.specs.TensorContraction.{places_cmp, places_keys, places_equal}
use Rattle.exact_algebra.specs.Formal.{greater_less, coefficient-nil}
use Rattle.frac128.specs.Rational.{ℚ}
use Rattle.beta_poly.specs.Polynomial.{Polynomial, poly_ring, zero_poly}
use Rattle.beta_poly.proofs.Steps.{at_place, coefficient_at, nonzero_at}
use Rattle.sparse_tensor.specs.Tensor.{Tensor, Entries, IsMap, HasRank, rank_of, entries_of, value, value_in, poly_zero_test}
use Rattle.span_solver.specs.Algebra.{polynomials}
use Rattle.span_solver.specs.Block.{IsIn, Ascend, numbers_at, block_rows, IsBlock}
use Rattle.span_solver.specs.Combine.{Each, combine, combine-nones, AreNone}
use Rattle.span_solver.specs.Coordinate.{moved, AreCoordinates, IsOpenAt}
use Rattle.span_solver.specs.Dependence.{Numbers}
use Rattle.span_solver.specs.Elimination.{pivots, select}
use Rattle.span_solver.specs.Scan.{FailsFirst}
use Rattle.span_solver.specs.Scanned.{valued, AreKnown, IsFirstStray, earlier, IsOpenKey}
use Rattle.span_solver.specs.Systems.{Solves}
use Rattle.span_solver.proofs.Opens.{moved-combine, each-at, solved-in, solved-before, known-all, known-before, stray-out, all_solved, open_at_row, open_at_stray, IsKnown}
use Rattle.span_solver.proofs.Scans.{AreFound}
use Rattle.span_solver.proofs.Values.{not_zero}

-- ---- an entry of a tensor
rank_at : (rank : ℕ) (es : Entries) (i : ℕ) (key : List ℕ) (p : Polynomial) → HasRank rank es → slice_get es i ≡ Some (key, p) → length key ≡ rank
rank_at rank [] i key p h e = absurd (cc e)
rank_at rank (f ∷ es) zero key p h e = let same : f ≡ (key, p) = cc e in ap (λ g. length g.0) (sym same) ∙ h.0
rank_at rank (f ∷ es) (suc i) key p h e = rank_at rank es i key p h.1 e

value_there : (es : Entries) (i : ℕ) (key : List ℕ) (p : Polynomial) → IsMap es → slice_get es i ≡ Some (key, p) → value_in es key ≢ zero_poly
value_there es i key p m e z =
    let there = at_place es i (key, p) (slice_get_within es i (key, p) e) (sym (get_or_from_slice_get es i (key, p) (key, p) e)) in
    not_zero p (nonzero_at places_keys poly_ring.semiring poly_zero_test es i (key, p) there m)
    (sym (coefficient_at places_keys poly_ring.semiring poly_zero_test es i (key, p) there m) ∙ z)

-- ---- what the scan knows
pub record IsScanned (tensor : Tensor) (k : ℕ) (gs : List ℕ) (keys : List (List ℕ)) (rows : List (List ℚ)) (xs : List Polynomial) (failing stray : Option ℕ) : Type 0 where
  pub pivots_are : pivots k rows ≡ Some gs
  pub ascend : Ascend keys
  pub ranks : Each (λ key. length key ≡ rank_of tensor) keys
  pub found : AreFound (value tensor) k gs keys rows xs
  pub fails : MatchOption failing (Solves polynomials xs (valued (value tensor) keys rows)) (λ m. FailsFirst polynomials xs m (valued (value tensor) keys rows))
  pub strays : MatchOption stray (AreKnown keys (entries_of tensor)) (λ m. IsFirstStray keys (entries_of tensor) m)

module _ (tensor : Tensor) (k : ℕ) (gs : List ℕ) (keys : List (List ℕ)) (rows : List (List ℚ)) (xs : List Polynomial) (ds : List Numbers) (b : IsBlock ds (block_rows k keys rows)) where
  open_row : (m : ℕ) (end : List ℕ) → pivots k rows ≡ Some gs → Ascend keys → AreFound (value tensor) k gs keys rows xs → FailsFirst polynomials xs m (valued (value tensor) keys rows) → slice_get keys m ≡ Some end
      → ((key : List ℕ) → places_cmp key end ≡ Less → IsKnown (value tensor) keys key) → IsOpenAt ds (value tensor) end
  open_row m end p a f g e known =
      open_at_row ds (value tensor) keys gs xs m end b.covers a (ap₂ pivots (sym b.many) (sym b.rows_are) ∙ p) (f.many ∙ b.many)
      (subst (λ es. Solves polynomials xs (select gs (valued (value tensor) keys es))) b.rows_are f.solve)
      (subst (λ es. FailsFirst polynomials xs m (valued (value tensor) keys es)) b.rows_are g) e known

  open_stray : (s : ℕ) (end : List ℕ) (p : Polynomial) → AreFound (value tensor) k gs keys rows xs → IsFirstStray keys (entries_of tensor) s → slice_get (entries_of tensor) s ≡ Some (end, p)
      → ((key : List ℕ) → places_cmp key end ≡ Less → IsIn key keys → moved xs ds key ≡ value tensor key) → IsOpenAt ds (value tensor) end
  open_stray s end p f g e solved =
      open_at_stray ds (value tensor) keys xs end b.covers (f.many ∙ b.many) (stray-out (entries_of tensor) keys s end p g e) (value_there (entries_of tensor) s end p tensor.1.is_map e) solved
      (known-before (entries_of tensor) keys s end p tensor.1.is_map.ascending g e)

  solved_row : (m : ℕ) (end : List ℕ) → Ascend keys → FailsFirst polynomials xs m (valued (value tensor) keys rows) → slice_get keys m ≡ Some end → (key : List ℕ) → IsIn key keys → places_cmp key end ≡ Less → moved xs ds key ≡ value tensor key
  solved_row m end a g e =
      solved-before (value tensor) ds xs keys m end a (subst (λ es. FailsFirst polynomials xs m (valued (value tensor) keys es)) b.rows_are g) e

  by_order : (o : Ordering) (m s : ℕ) (own other key : List ℕ) (p : Polynomial) → places_cmp other own ≡ o → pivots k rows ≡ Some gs → Ascend keys → AreFound (value tensor) k gs keys rows xs → FailsFirst polynomials xs m (valued (value tensor) keys rows) → IsFirstStray keys (entries_of tensor) s
      → slice_get keys m ≡ Some own → slice_get (entries_of tensor) s ≡ Some (other, p) → key ≡ earlier o other own → IsOpenAt ds (value tensor) key
  by_order Less m s own other key p o q a f g t h e same =
      subst (IsOpenAt ds (value tensor)) (sym same)
      (open_stray s other p f t e (λ j l i. solved_row m own a g h j i (places_keys.total.trans j other own l o)))
  by_order Equal m s own other key p o q a f g t h e same =
      subst (IsOpenAt ds (value tensor)) (sym same)
      (open_row m own q a f g h (λ j l. known-before (entries_of tensor) keys s other p tensor.1.is_map.ascending t e j (subst (λ z. places_cmp j z ≡ Less) (sym (places_equal other own o)) l)))
  by_order Greater m s own other key p o q a f g t h e same =
      subst (IsOpenAt ds (value tensor)) (sym same)
      (open_row m own q a f g h (λ j l. known-before (entries_of tensor) keys s other p tensor.1.is_map.ascending t e j (places_keys.total.trans j own other l (greater_less places_keys other own o))))

  rank_by : (o : Ordering) (m s : ℕ) (own other key : List ℕ) (p : Polynomial) → Each (λ j. length j ≡ rank_of tensor) keys → slice_get keys m ≡ Some own → slice_get (entries_of tensor) s ≡ Some (other, p) → key ≡ earlier o other own → length key ≡ rank_of tensor
  rank_by Less m s own other key p r h e same = ap length same ∙ rank_at (rank_of tensor) (entries_of tensor) s other p tensor.1.keys e
  rank_by Equal m s own other key p r h e same = ap length same ∙ each-at (λ j. length j ≡ rank_of tensor) keys m own r h
  rank_by Greater m s own other key p r h e same = ap length same ∙ each-at (λ j. length j ≡ rank_of tensor) keys m own r h

  pub not_spanned_is : (failing stray : Option ℕ) → IsScanned tensor k gs keys rows xs failing stray → (key : List ℕ) → IsOpenKey keys (entries_of tensor) failing stray key → IsOpenAt ds (value tensor) key × (length key ≡ rank_of tensor)
  not_spanned_is None None s key h = absurd h
  not_spanned_is (Some m) None s key h = (
    open_row m key s.pivots_are s.ascend s.found s.fails h (λ j l. known-all (entries_of tensor) keys s.strays j),
    each-at (λ j. length j ≡ rank_of tensor) keys m key s.ranks h,
  )
  not_spanned_is None (Some m) s key h = (
    open_stray m key h.0 s.found s.strays h.1 (λ j l i. solved-in (value tensor) ds xs keys (subst (λ es. Solves polynomials xs (valued (value tensor) keys es)) b.rows_are s.fails) j i),
    rank_at (rank_of tensor) (entries_of tensor) m key h.0 tensor.1.keys h.1,
  )
  not_spanned_is (Some m) (Some n) s key h = (
    by_order (places_cmp h.1 h.0) m n h.0 h.1 key h.2 refl s.pivots_are s.ascend s.found s.fails s.strays h.3 h.4 h.5,
    rank_by (places_cmp h.1 h.0) m n h.0 h.1 key h.2 s.ranks h.3 h.4 h.5,
  )

  pub coordinates_are : (failing stray : Option ℕ) → IsScanned tensor k gs keys rows xs failing stray → IsNone failing × IsNone stray → AreCoordinates ds (value tensor) xs
  coordinates_are None None s h =
      all_solved ds (value tensor) keys xs b.covers (s.found.many ∙ b.many) (known-all (entries_of tensor) keys s.strays)
      (subst (λ es. Solves polynomials xs (valued (value tensor) keys es)) b.rows_are s.fails)
  coordinates_are (Some m) stray s h = absurd (cc h.0)
  coordinates_are None (Some n) s h = absurd (cc h.1)

-- ---- no coordinate but 0 where the tensor is 0
replicate-none : (n : ℕ) → AreNone polynomials (replicate n zero_poly)
replicate-none zero = tt
replicate-none (suc n) = (refl, replicate-none n)

replicate-length : {X : Type 0} (n : ℕ) (x : X) → length (replicate n x) ≡ n
replicate-length zero x = refl
replicate-length (suc n) x = ap suc (replicate-length n x)

value_none : (es : Entries) (key : List ℕ) → length es ≡ 0 → value_in es key ≡ zero_poly
value_none [] key l = coefficient-nil places_keys poly_ring.semiring poly_zero_test key
value_none (e ∷ es) key l = absurd (omega arith)

pub zeros_are : (ds : List Numbers) (tensor : Tensor) (k : ℕ) (xs : List Polynomial) → k ≡ length ds → length (entries_of tensor) ≡ 0 → xs ≡ replicate k zero_poly → AreCoordinates ds (value tensor) xs
zeros_are ds tensor k xs m l e = record {
  many = ap length e ∙ replicate-length k zero_poly ∙ m;
  adds = λ key.
      moved-combine xs ds key ∙ ap (combine polynomials (numbers_at ds key)) e ∙ combine-nones polynomials (numbers_at ds key) (replicate k zero_poly) (replicate-none k)
      ∙ sym (value_none (entries_of tensor) key l);
}

-- ---- the key that is handed on
pub open-row : (keys : List (List ℕ)) (es : Entries) (failing stray : Option ℕ) (m : ℕ) (own key : List ℕ) → failing ≡ Some m → stray ≡ None → m < length keys → own ≡ get_or keys m own → key ≡ own → IsOpenKey keys es failing stray key
open-row keys es failing stray m own key f s l e k =
    subst (λ o. IsOpenKey keys es o stray key) (sym f) (subst (λ o. IsOpenKey keys es (Some m) o key) (sym s) (slice_get_read keys (length keys) m own refl l e ∙ ap Some (sym k)))

pub open-stray : (keys : List (List ℕ)) (es : Entries) (failing stray : Option ℕ) (m : ℕ) (other key : List ℕ) (p : Polynomial) → failing ≡ None → stray ≡ Some m → slice_get es m ≡ Some (other, p) → key ≡ other → IsOpenKey keys es failing stray key
open-stray keys es failing stray m other key p f s e k =
    subst (λ o. IsOpenKey keys es o stray key) (sym f) (subst (λ o. IsOpenKey keys es None o key) (sym s) (p, e ∙ ap (λ j. Some (j, p)) (sym k)))

pub open-both : (keys : List (List ℕ)) (es : Entries) (failing stray : Option ℕ) (m n : ℕ) (own other key : List ℕ) (p : Polynomial) → failing ≡ Some m → stray ≡ Some n → m < length keys → own ≡ get_or keys m own → slice_get es n ≡ Some (other, p) → key ≡ earlier (places_cmp other own) other own → IsOpenKey keys es failing stray key
open-both keys es failing stray m n own other key p f s l e h k =
    subst (λ o. IsOpenKey keys es o stray key) (sym f) (subst (λ o. IsOpenKey keys es (Some m) o key) (sym s) (own, other, p, slice_get_read keys (length keys) m own refl l e, h, k))
