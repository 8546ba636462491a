-- The steps of a loop that takes entries in order from the front: `first` and `more` are the values of the run so far.
use Rattle.std.specs.Prelude.{◌≡◌, ℕ, List, [], ◌∷◌, ◌++◌}
use Rattle.std.proofs.Common.{sym, ap, ◌∙◌, Equal}
use Rattle.exact_algebra.specs.Sums.{sum, sum-append, sum-cons, sum-nil, sum-one}
use Rattle.exact_algebra.specs.TensorContraction.{places_keys, places_cmp}
use Rattle.beta_poly.specs.Polynomial.{Polynomial, poly_ring, add_poly}
use Rattle.beta_poly.proofs.Gathered.{run, gathered}
use Rattle.beta_poly.proofs.Neighbours.{run_start, run_same, run_next, run_end}
use Rattle.sparse_tensor.specs.Collected.{run_value}
use Rattle.sparse_tensor.specs.Tensor.{Entries, poly_zero_test, kept}
use Rattle.sparse_tensor.proofs.Kept.{kept_is}

abbrev pub run_of : List ℕ × Polynomial → Entries → Entries
run_of = run places_keys poly_ring.semiring poly_zero_test

abbrev pub gathered_of : Entries → Entries
gathered_of = gathered places_keys poly_ring.semiring poly_zero_test

-- ---- the value of a run

value_one : (p : Polynomial) (more : List Polynomial) → more ≡ [] → run_value p more ≡ p
value_one p more h =
    ap (run_value p) h ∙ ap (add_poly p) (sum-nil poly_ring.semiring (λ q. q)) ∙ poly_ring.semiring.add_zero p

value_more : (p d : Polynomial) (more new : List Polynomial) → new ≡ more ++ d ∷ [] → run_value p new ≡ add_poly (run_value p more) d
value_more p d more new h =
    ap (run_value p) h
    ∙ ap (add_poly p) (sum-append poly_ring.semiring more (d ∷ []) (λ q. q) ∙ ap (add_poly (sum poly_ring.semiring more (λ q. q))) (sum-one poly_ring.semiring d (λ q. q)))
    ∙ sym (poly_ring.semiring.add_assoc p (sum poly_ring.semiring more (λ q. q)) d)

-- a list that begins with the first value and ends with the others
pub value_all : (p : Polynomial) (more start all : List Polynomial) → start ≡ p ∷ [] → all ≡ start ++ more → sum poly_ring.semiring all (λ q. q) ≡ run_value p more
value_all p more start all s h =
    ap (λ qs. sum poly_ring.semiring qs (λ q. q)) (h ∙ ap (λ r. r ++ more) s) ∙ sum-cons poly_ring.semiring p more (λ q. q)

pub value_alone : (p : Polynomial) (more : List Polynomial) → more ≡ [] → p ≡ run_value p more
value_alone p more h = sym (value_one p more h)

-- ---- the steps

pub start_run : (all items out : Entries) (e : List ℕ × Polynomial) (more : List Polynomial) → all ≡ e ∷ items → out ≡ [] → more ≡ [] → out ++ run_of (e.0, run_value e.1 more) items ≡ gathered_of all
start_run all items out e more h o m =
    ap (λ p. out ++ run_of (e.0, p) items) (value_one e.1 more m) ∙ run_start places_keys poly_ring.semiring poly_zero_test all items out e h o

pub same_run : (out items next m : Entries) (key : List ℕ) (p : Polynomial) (d : List ℕ × Polynomial) (more new : List Polynomial) → items ≡ d ∷ next → places_cmp key d.0 ≡ Equal → new ≡ more ++ d.1 ∷ [] → out ++ run_of (key, run_value p more) items ≡ m → out ++ run_of (key, run_value p new) next ≡ m
same_run out items next m key p d more new hi o hs h =
    run_same places_keys poly_ring.semiring poly_zero_test out items next m (key, run_value p more) d (run_value p new) hi o (value_more p d.1 more new hs) h

pub next_run : (out new items next m : Entries) (key : List ℕ) (p s : Polynomial) (d : List ℕ × Polynomial) (more none : List Polynomial) → items ≡ d ∷ next → (places_cmp key d.0 ≡ Equal → ⊥) → s ≡ run_value p more → new ≡ out ++ kept key s → none ≡ [] → out ++ run_of (key, run_value p more) items ≡ m → new ++ run_of (d.0, run_value d.1 none) next ≡ m
next_run out new items next m key p s d more none hi n hs hn z h =
    ap (λ q. new ++ run_of (d.0, q) next) (value_one d.1 none z)
    ∙ run_next places_keys poly_ring.semiring poly_zero_test out new items next m (key, run_value p more) d hi n (hn ∙ ap (λ r. out ++ r) (ap (kept key) hs ∙ kept_is key (run_value p more))) h

pub end_run : (out new items m : Entries) (key : List ℕ) (p s : Polynomial) (more : List Polynomial) → items ≡ [] → s ≡ run_value p more → new ≡ out ++ kept key s → out ++ run_of (key, run_value p more) items ≡ m → new ≡ m
end_run out new items m key p s more hi hs hn h =
    run_end places_keys poly_ring.semiring poly_zero_test out new items m (key, run_value p more) hi (hn ∙ ap (λ r. out ++ r) (ap (kept key) hs ∙ kept_is key (run_value p more))) h
