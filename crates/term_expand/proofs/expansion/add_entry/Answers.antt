use Rattle.std.proofs.Common.{◌++◌, List, refl, sym, ap, subst, ◌∙◌}
use Rattle.std.proofs.lemmas.Result.{on_ok_weaker}
use Rattle.model_core.specs.Directions.{CouplingEntry, Direction, symbol_of, text_cells, entry_block, entry_directions}
use Rattle.term_expand.specs.Expansion.{AreDirections, entry_of}
use Rattle.term_expand.specs.Moves.{yukawa_values, scalar_values}
use Rattle.term_expand.proofs.Added.{on_ok_all, entry_adds, ranks_of}
use Rattle.term_expand.proofs.expansion.add_entry.Goals as goal

pub add_directions-requires : goal.add_directions-requires
add_directions-requires c =
    let e : CouplingEntry = entry_of c.args.place.now c.args.term.now c.args.row c.args.column in
    ranks_of c.args.model.now e.term (entry_block c.args.model.now e) (text_cells e.term e.row e.column) c.in_ok-moves.moves.texts c.in_ok-moves.ensures.value.texts

pub returns-clause-value : goal.returns-clause-value
returns-clause-value c =
    let model = c.args.model.now in
    let e : CouplingEntry = entry_of c.args.place.now c.args.term.now c.args.row c.args.column in
    let moves = c.in_ok-moves.ensures.value in
    let old = c.args.sums.now.directions in
    let new = c.add_directions.new.found in
    let yukawa = c.in_ok-add_values.ensures.yukawa ∙ ap (λ texts. c.args.sums.now.yukawa ++ yukawa_values e.term (symbol_of e) texts) c.as_slice.ensures in
    let scalar = c.in_ok-add_values.ensures.scalar ∙ ap (λ texts. c.args.sums.now.scalar ++ scalar_values e.term (symbol_of e) texts) c.as_slice.ensures in
    on_ok_weaker c.add_directions.result
    (λ pushed. entry_adds model e c.in_ok-moves.moves c.args.sums.now _ moves yukawa scalar pushed)
    (on_ok_all c.add_directions.result (λ (before : List Direction). AreDirections before old → AreDirections (before ++ entry_directions model e) new)
    (λ before. on_ok_all c.add_directions.result (λ (so_far : AreDirections before old). AreDirections (before ++ entry_directions model e) new)
    (λ so_far. c.add_directions.ensures.value model e before refl refl refl moves (subst (AreDirections before) (sym c.in_ok-add_values.ensures.directions) so_far))))
