use Rattle.std.proofs.Common.{◌≡◌, ◌∙◌, ℕ, length, ap, subst, sym, is_lt, rules}
use Rattle.std.proofs.lemmas.List.Sorted.{ranks_by, answers_always}
use Rattle.beta_poly.specs.declared.symbol.Symbol.{Symbol}
use Rattle.beta_poly.specs.Symbol.{symbol_keys, symbol_cmp}
use Rattle.std.specs.List.Sorted.{IsSortedByKey}
use Rattle.beta_poly.proofs.Views.{refilled}
use Rattle.beta_poly.proofs.monomial.sort_powers.Goals as goal

pub returns-clause-sorted : goal.returns-clause-sorted
returns-clause-sorted c =
    subst (IsSortedByKey (λ (p : Symbol × ℕ). p.0) symbol_cmp) (sym (refilled c.args.powers.now.items c.sort_by.new.self (c.in_ok-sort_by.ensures.len ∙ ap length c.as_mut_slice.ensures.value)))
    (c.in_ok-sort_by.ensures.sorted (λ x y. is_lt (symbol_cmp x.0 y.0)) (ranks_by symbol_keys.total (λ (p : Symbol × ℕ). p.0)) (answers_always _ (λ a r. is_lt r ≡ is_lt (symbol_cmp a.0.now.0 a.1.0.now.0)) _ (λ f a r f' k. let e : r ≡ symbol_cmp a.0.now.0 a.1.0.now.0 = search rules in ap is_lt e)))
