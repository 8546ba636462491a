-- What the symbols of a model are named by.
use Rattle.std.specs.Prelude.{ℕ, List, ◌++◌, map}
use Rattle.model_core.specs.declared.group.Group.{Group}
use Rattle.model_core.specs.declared.model.Model.{Model}
use Rattle.model_core.specs.declared.term.Term.{Term}
use Rattle.model_core.specs.declared.term.Shape.{Shape}
use Rattle.model_core.specs.declared.term.Shape.TheVariants.{One}
use Rattle.model_core.specs.Directions.{CouplingEntry, cells, entries}
use Rattle.derive_core.specs.declared.betas.Target.{Target}

abbrev pub gauge_target : Group → Target
gauge_target group = record { name = group.coupling; latex = group.latex; row = 0; column = 0 }

-- the row and the column of a symbol, 0 for a coupling that has one symbol
abbrev pub index_in : Shape → ℕ → ℕ
index_in One index = 0
index_in _ index = index

abbrev pub cell_target : Term → ℕ × ℕ → Target
cell_target term cell =
    record { name = term.coupling; latex = term.latex; row = index_in term.shape cell.0; column = index_in term.shape cell.1 }

-- those of a term's symbols, row by row
abbrev pub term_targets : Term → List Target
term_targets term = map (cell_target term) (cells term)

abbrev pub entry_target : CouplingEntry → Target
entry_target e = cell_target e.term (e.row, e.column)

-- a target for each symbol id: those of gauge couplings, then those of the terms' entries
abbrev pub targets : Model → List Target
targets model = map gauge_target model.groups ++ map entry_target (entries model)
