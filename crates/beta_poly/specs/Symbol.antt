-- The symbols of couplings, their order, and the swap of a symbol with its conjugate.
use Rattle.std.specs.Prelude.{◌≡◌, ℕ, Bool, true, false, not, if◌then◌else◌}
use Rattle.std.specs.Ordering.{nat_cmp, bool_cmp, on, then_cmp, flip_args, ordering_then}
use Rattle.std.specs.Cmp.{IsTotalOrder, bool_cmp_total}
use Rattle.std.specs.Coded.{Coded, code_by, coded×, coded_ℕ, coded_bool}
use Rattle.std.proofs.Common.{refl, sym, Ordering, Less, Equal, Greater}
use Rattle.std.proofs.lemmas.Cmp.{nat_cmp_total, on_total, then_total, back_total}
use Rattle.exact_algebra.specs.Sums.{nat_equal}
use Rattle.exact_algebra.specs.Formal.{Keys}
use Rattle.beta_poly.specs.declared.symbol.Symbol.{Symbol}

-- symbols by id, for one id a real one before a complex one, then the plain one before its conjugate
abbrev pub symbol_cmp : Symbol → Symbol → Ordering
symbol_cmp =
    then_cmp (on (λ s. s.id) nat_cmp) (then_cmp (flip_args (on (λ s. s.real) bool_cmp)) (on (λ s. s.conj) bool_cmp))

-- a complex symbol is swapped with its conjugate, and a real one stays
unfoldable pub conj_symbol : Symbol → Symbol
conj_symbol s = record { id = s.id; real = s.real; conj = if s.real then s.conj else not s.conj }

-- ---- laws

pub symbol_total : IsTotalOrder symbol_cmp
symbol_total =
    then_total (on_total (λ (s : Symbol). s.id) nat_cmp_total)
    (then_total (back_total (on_total (λ (s : Symbol). s.real) bool_cmp_total)) (on_total (λ (s : Symbol). s.conj) bool_cmp_total))

pub then_equal : (o r : Ordering) → ordering_then o r ≡ Equal → (o ≡ Equal) × (r ≡ Equal)
then_equal Less r h = cc
then_equal Equal r h = (refl, h)
then_equal Greater r h = cc

bool_equal : (a b : Bool) → bool_cmp a b ≡ Equal → a ≡ b
bool_equal false false h = refl
bool_equal false true h = cc
bool_equal true false h = cc
bool_equal true true h = refl

pub symbol_equal : (s t : Symbol) → symbol_cmp s t ≡ Equal → s ≡ t
symbol_equal s t h =
    let first = then_equal (nat_cmp s.id t.id) (ordering_then (bool_cmp t.real s.real) (bool_cmp s.conj t.conj)) h in
    let second = then_equal (bool_cmp t.real s.real) (bool_cmp s.conj t.conj) first.1 in
    λ i. record { id = nat_equal s.id t.id first.0 i; real = sym (bool_equal t.real s.real second.0) i; conj = bool_equal s.conj t.conj second.1 i }

-- symbols as the keys of monomials
abbrev pub symbol_keys : Keys
symbol_keys = record { carrier = Symbol; cmp = symbol_cmp; total = symbol_total; equal = symbol_equal }

flipped_twice : (r c : Bool) → (if r then (if r then c else not c) else not (if r then c else not c)) ≡ c
flipped_twice true c = refl
flipped_twice false true = refl
flipped_twice false false = refl

pub conj_symbol-conj_symbol : (s : Symbol) → conj_symbol (conj_symbol s) ≡ s
unfolding conj_symbol
conj_symbol-conj_symbol s = λ i. record { id = s.id; real = s.real; conj = flipped_twice s.real s.conj i }

-- a symbol is stored as its three fields
abbrev pub symbol_code : Coded Symbol
symbol_code =
    code_by (ℕ × (Bool × Bool)) (coded× coded_ℕ (coded× coded_bool coded_bool)) (λ s. (s.id, (s.real, s.conj))) (λ p. record { id = p.0; real = p.1.0; conj = p.1.1 }) (λ _. refl)
