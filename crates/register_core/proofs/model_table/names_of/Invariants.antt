use Rattle.std.proofs.Common.{◌≡◌, ◌++◌, map, drop}
use Rattle.register_core.proofs.model_table.names_of.Given as goal

-- the names so far and those of the models that are left are all names
abbrev pub invariant-loop-model : goal.invariant-loop-model
invariant-loop-model l = l.names ++ map (λ model. model.0) (drop l.model-index l.models) ≡ map (λ model. model.0) l.models
