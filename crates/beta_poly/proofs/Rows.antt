-- The products of all pairs of terms, as a loop over both lists collects them.
use Rattle.std.proofs.Common.{◌≡◌, ℕ, zero, suc, ◌+◌, ◌<◌, [], ◌∷◌, ◌++◌, length, get_or, take, refl, sym, ap, ◌∙◌, arith, append_assoc, append-nil, subst}
use Rattle.std.specs.Prelude.{map}
use Rattle.std.specs.List.{flat_map}
use Rattle.std.proofs.lemmas.List.{map-append, take_more}
use Rattle.exact_algebra.specs.Canon.{products}
use Rattle.frac128.specs.Rational.{ℚ, ◌*ℚ◌}
use Rattle.beta_poly.specs.Monomial.{Monomial, times_monomial, ExponentsFit}
use Rattle.beta_poly.specs.Polynomial.{Terms, all_products, TermsFit}

times_terms : Monomial × ℚ → Monomial × ℚ → Monomial × ℚ
times_terms d e = (times_monomial d.0 e.0, d.1 *ℚ e.1)

flat_map-append : (f : Monomial × ℚ → Terms) (p q : Terms) → flat_map f (p ++ q) ≡ flat_map f p ++ flat_map f q
flat_map-append f [] q = refl
flat_map-append f (d ∷ ds) q = ap (λ r. f d ++ r) (flat_map-append f ds q) ∙ sym (append_assoc (f d) (flat_map f ds) (flat_map f q))

one_row : (d : Monomial × ℚ) (q : Terms) → all_products (d ∷ []) q ≡ map (times_terms d) q
unfolding products times_terms
one_row d q = append-nil (map (λ e. (times_monomial d.0 e.0, d.1 *ℚ e.1)) q)

pub one_product : (d e : Monomial × ℚ) → all_products (d ∷ []) (e ∷ []) ≡ (times_monomial d.0 e.0, d.1 *ℚ e.1) ∷ []
unfolding times_terms
one_product d e = one_row d (e ∷ [])

row_append : (d : Monomial × ℚ) (p q : Terms) → all_products (d ∷ []) (p ++ q) ≡ all_products (d ∷ []) p ++ all_products (d ∷ []) q
row_append d p q =
    one_row d (p ++ q) ∙ map-append (times_terms d) p q ∙ sym (ap (λ r. r ++ all_products (d ∷ []) q) (one_row d p) ∙ ap (λ r. map (times_terms d) p ++ r) (one_row d q))

rows_append : (p q r : Terms) → all_products (p ++ q) r ≡ all_products p r ++ all_products q r
unfolding products
rows_append p q r = flat_map-append (λ d. map (λ e. (times_monomial d.0 e.0, d.1 *ℚ e.1)) r) p q

taken : (ts : Terms) (i : ℕ) (d : Monomial × ℚ) → i < length ts → d ≡ get_or ts i d → take i ts ++ d ∷ [] ≡ take (i + 1) ts
taken ts i d l r = ap (λ x. take i ts ++ x ∷ []) r ∙ sym (take_more ts i d l)

pub row_step : (start out new : Terms) (d e : Monomial × ℚ) (ts : Terms) (i : ℕ) → i < length ts → e ≡ get_or ts i e → out ≡ start ++ all_products (d ∷ []) (take i ts) → new ≡ out ++ all_products (d ∷ []) (e ∷ []) → new ≡ start ++ all_products (d ∷ []) (take (i + 1) ts)
row_step start out new d e ts i l r ho hn =
    hn ∙ ap (λ s. s ++ all_products (d ∷ []) (e ∷ [])) ho ∙ append_assoc start (all_products (d ∷ []) (take i ts)) (all_products (d ∷ []) (e ∷ [])) ∙ ap (λ s. start ++ s) (sym (row_append d (take i ts) (e ∷ [])) ∙ ap (all_products (d ∷ [])) (taken ts i e l r))

pub rows_step : (out new : Terms) (d : Monomial × ℚ) (ts b : Terms) (i : ℕ) → i < length ts → d ≡ get_or ts i d → out ≡ all_products (take i ts) b → new ≡ out ++ all_products (d ∷ []) b → new ≡ all_products (take (i + 1) ts) b
rows_step out new d ts b i l r ho hn =
    hn ∙ ap (λ s. s ++ all_products (d ∷ []) b) ho ∙ sym (rows_append (take i ts) (d ∷ []) b) ∙ ap (λ s. all_products s b) (taken ts i d l r)

pub row_start : (start : Terms) (d : Monomial × ℚ) → start ≡ start ++ all_products (d ∷ []) []
unfolding products
row_start start d = sym (append-nil start)

pub rows_start : (b : Terms) → [] ≡ all_products [] b
unfolding products
rows_start b = refl

-- ---- the bound on exponents

pub pair_fits : (d e : Monomial × ℚ) (ts : Terms) (i : ℕ) → i < length ts → e ≡ get_or ts i e → TermsFit (d ∷ []) ts → ExponentsFit d.0 e.0
pair_fits d e ts i l r h = subst (λ x. ExponentsFit d.0 x.0) (sym r) (h 0 d (omega arith) i e l)

pub row_fits : (d : Monomial × ℚ) (ts b : Terms) (i : ℕ) → i < length ts → d ≡ get_or ts i d → TermsFit ts b → TermsFit (d ∷ []) b
row_fits d ts b i l r h zero x k = subst (λ y. (j : ℕ) (e : Monomial × ℚ) → j < length b → ExponentsFit y.0 (get_or b j e).0) (sym r) (h i d l)
row_fits d ts b i l r h (suc n) x k = absurd (omega arith)
