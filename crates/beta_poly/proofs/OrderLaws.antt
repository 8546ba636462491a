-- The canonical order of monomials is the descending lexicographic order of their vectors of exponents.
use Rattle.std.proofs.Common.{◌≡◌, ℕ, ◌+◌, ◌<◌, [], ◌∷◌, eqb, false, refl, sym, ap, ap₂, ◌∙◌, subst, arith, Ordering, Less, Equal, Greater}
use Rattle.std.specs.Ordering.{nat_cmp, ordering_then}
use Rattle.std.proofs.lemmas.Cmp.{tied_itself, ranked, by_ranked}
use Rattle.exact_algebra.specs.Naturals.{nat_semiring, nat_zero}
use Rattle.exact_algebra.specs.Sums.{where_equal, nat_equal}
use Rattle.exact_algebra.specs.Formal.{Above-after, coefficient, coefficient-cons, coefficient_head, coefficient_above, canonical_tail, greater_less}
use Rattle.beta_poly.specs.declared.symbol.Symbol.{Symbol}
use Rattle.beta_poly.specs.Symbol.{symbol_keys, symbol_cmp}
use Rattle.beta_poly.specs.Monomial.{Powers, Monomial, IsMonomial, exponent, powers_cmp, monomial_cmp, monomial_keys, monomial_equal}
use Rattle.beta_poly.specs.Laws.{Precedes, OrderLaws}
use Rattle.beta_poly.proofs.Steps.{coefficient_none}

abbrev at : Powers → Symbol → ℕ
at p s = coefficient symbol_keys nat_semiring p s

-- the first symbol where the exponents of two lists differ
record Differ (p q : Powers) : Type 0 where
  pub place : Symbol
  pub greater : at q place < at p place
  pub same_before : (s : Symbol) → symbol_cmp s place ≡ Less → at p s ≡ at q s

positive : (n : ℕ) → eqb n 0 ≡ false → 0 < n
positive n h = grind arith

none_before : (x : Symbol × ℕ) (xs : Powers) (s : Symbol) → IsMonomial (x ∷ xs) → symbol_cmp s x.0 ≡ Less → at (x ∷ xs) s ≡ 0
none_before x xs s h l =
    coefficient_above symbol_keys nat_semiring nat_zero s (x ∷ xs) (l, Above-after symbol_keys ℕ s x.0 xs l h.ascending.0)

head_is : (x : Symbol × ℕ) (xs : Powers) (s : Symbol) → IsMonomial (x ∷ xs) → s ≡ x.0 → at (x ∷ xs) s ≡ x.1
head_is x xs s h e =
    ap (at (x ∷ xs)) e ∙ coefficient_head symbol_keys nat_semiring nat_zero x.0 x xs (tied_itself symbol_keys.total x.0) h.ascending.0

nothing : (s : Symbol) → at [] s ≡ 0
nothing = coefficient_none symbol_keys nat_semiring nat_zero

-- only the first list has its first symbol
earlier : (x : Symbol × ℕ) (xs q : Powers) → IsMonomial (x ∷ xs) → ((s : Symbol) → s ≡ x.0 → at q s ≡ 0) → ((s : Symbol) → symbol_cmp s x.0 ≡ Less → at q s ≡ 0) → Differ (x ∷ xs) q
earlier x xs q h none before = record {
  place = x.0;
  greater = subst (λ n. n < at (x ∷ xs) x.0) (sym (none x.0 refl)) (subst (λ n. 0 < n) (sym (head_is x xs x.0 h refl)) (positive x.1 h.nonzero.0));
  same_before = λ s l. none_before x xs s h l ∙ sym (before s l);
}

-- both have the symbol, and the first has the greater exponent
greater_here : (x y : Symbol × ℕ) (xs ys : Powers) → IsMonomial (x ∷ xs) → IsMonomial (y ∷ ys) → x.0 ≡ y.0 → y.1 < x.1 → Differ (x ∷ xs) (y ∷ ys)
greater_here x y xs ys h k e l = record {
  place = x.0;
  greater = subst (λ n. n < at (x ∷ xs) x.0) (sym (head_is y ys x.0 k e)) (subst (λ n. y.1 < n) (sym (head_is x xs x.0 h refl)) l);
  same_before = λ s b. none_before x xs s h b ∙ sym (none_before y ys s k (subst (λ t. symbol_cmp s t ≡ Less) e b));
}

more : (w m n : ℕ) → n < m → w + n < w + m
more w m n l = omega arith

-- the first powers are one
same_head : (x y : Symbol × ℕ) (xs ys : Powers) → x.0 ≡ y.0 → x.1 ≡ y.1 → Differ xs ys → Differ (x ∷ xs) (y ∷ ys)
same_head x y xs ys e f d = record {
  place = d.place;
  greater = subst (λ n. n < at (x ∷ xs) d.place) (sym (cons y ys d.place ∙ ap (λ w. w + at ys d.place) (sym (head d.place)))) (subst (λ n. weight x d.place + at ys d.place < n) (sym (cons x xs d.place)) (more (weight x d.place) (at xs d.place) (at ys d.place) d.greater));
  same_before = λ s l. cons x xs s ∙ ap₂ ◌+◌ (head s) (d.same_before s l) ∙ sym (cons y ys s);
}
  where
    weight : Symbol × ℕ → Symbol → ℕ
    weight z s = where_equal nat_semiring (symbol_cmp s z.0) z.1

    head : (s : Symbol) → weight x s ≡ weight y s
    head s = ap₂ (λ t n. where_equal nat_semiring (symbol_cmp s t) n) e f

    cons : (z : Symbol × ℕ) (zs : Powers) (s : Symbol) → at (z ∷ zs) s ≡ weight z s + at zs s
    cons z zs s = coefficient-cons symbol_keys nat_semiring nat_zero z zs s

by_exponent : (r : Ordering) (x y : Symbol × ℕ) (xs ys : Powers) → nat_cmp y.1 x.1 ≡ r → x.0 ≡ y.0 → IsMonomial (x ∷ xs) → IsMonomial (y ∷ ys) → ordering_then r (powers_cmp xs ys) ≡ Less → (powers_cmp xs ys ≡ Less → Differ xs ys) → Differ (x ∷ xs) (y ∷ ys)
by_exponent Less x y xs ys r e h k l rest = greater_here x y xs ys h k e (below y.1 x.1 r)
  where
    below : (a b : ℕ) → nat_cmp a b ≡ Less → a < b
    below a b o = by_ranked _ _ _ (nat_cmp a b) (ranked a b (nat_cmp a b) refl) (λ _ p. p) (λ z p. cc) (λ z p. cc)
by_exponent Equal x y xs ys r e h k l rest = same_head x y xs ys e (sym (nat_equal y.1 x.1 r)) (rest l)
by_exponent Greater x y xs ys r e h k l rest = cc

by_symbol : (o : Ordering) (x y : Symbol × ℕ) (xs ys : Powers) → symbol_cmp x.0 y.0 ≡ o → IsMonomial (x ∷ xs) → IsMonomial (y ∷ ys) → ordering_then (ordering_then o (nat_cmp y.1 x.1)) (powers_cmp xs ys) ≡ Less → (powers_cmp xs ys ≡ Less → Differ xs ys) → Differ (x ∷ xs) (y ∷ ys)
by_symbol Less x y xs ys o h k l rest =
    earlier x xs (y ∷ ys) h (λ s e. none_before y ys s k (subst (λ t. symbol_cmp t y.0 ≡ Less) (sym e) o)) (λ s b. none_before y ys s k (symbol_keys.total.trans s x.0 y.0 b o))
by_symbol Equal x y xs ys o h k l rest =
    by_exponent (nat_cmp y.1 x.1) x y xs ys refl (symbol_keys.equal x.0 y.0 o) h k l rest
by_symbol Greater x y xs ys o h k l rest = cc

differ : (p q : Powers) → IsMonomial p → IsMonomial q → powers_cmp p q ≡ Less → Differ p q
differ [] [] h k l = cc
differ [] (y ∷ ys) h k l = cc
differ (x ∷ xs) [] h k l = earlier x xs [] h (λ s e. nothing s) (λ s b. nothing s)
differ (x ∷ xs) (y ∷ ys) h k l =
    by_symbol (symbol_cmp x.0 y.0) x y xs ys refl h k l (differ xs ys (canonical_tail symbol_keys nat_semiring nat_zero x xs h) (canonical_tail symbol_keys nat_semiring nat_zero y ys k))

precedes : (m n : Monomial) → monomial_cmp m n ≡ Less → Precedes m n
precedes m n l =
    let d = differ m.0 n.0 m.1 n.1 l in
    record { at = d.place; greater = d.greater; same_before = d.same_before }

not_below : (a b : ℕ) → a < b → a ≡ b → ⊥
not_below a b l e = omega arith

not_both : (a b : ℕ) → a < b → b < a → ⊥
not_both a b l k = omega arith

-- two monomials don't precede each other
apart_at : (o : Ordering) (m n : Monomial) (p : Precedes m n) (q : Precedes n m) → symbol_cmp p.at q.at ≡ o → ⊥
apart_at Less m n p q o = not_below (exponent n p.at) (exponent m p.at) p.greater (q.same_before p.at o)
apart_at Greater m n p q o =
    not_below (exponent m q.at) (exponent n q.at) q.greater (p.same_before q.at (greater_less symbol_keys p.at q.at o))
apart_at Equal m n p q o =
    not_both (exponent n p.at) (exponent m p.at) p.greater (subst (λ s. exponent m s < exponent n s) (sym (symbol_keys.equal p.at q.at o)) q.greater)

less_at : (o : Ordering) (m n : Monomial) → monomial_cmp m n ≡ o → Precedes m n → o ≡ Less
less_at Less m n h p = refl
less_at Equal m n h p =
    absurd (not_below (exponent n p.at) (exponent m p.at) p.greater (ap (λ k. exponent k p.at) (sym (monomial_equal m n h))))
less_at Greater m n h p =
    absurd (apart_at (symbol_cmp p.at other.at) m n p other refl)
  where
    other : Precedes n m
    other = precedes n m (greater_less monomial_keys m n h)

pub order_laws : OrderLaws
order_laws = record {
  precedes = precedes;
  less = λ m n p. less_at (monomial_cmp m n) m n refl p;
  same = monomial_equal;
}
