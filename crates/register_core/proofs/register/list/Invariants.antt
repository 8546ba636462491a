use Rattle.std.proofs.Common.{◌≡◌, ◌++◌, map, drop}
use Rattle.register_core.specs.Causes.{Stays}
use Rattle.register_core.specs.Machine.{count_of, list}
use Rattle.register_core.proofs.register.list.Given as goal

-- the lines so far and those of the names that are left are all lines
abbrev pub invariant-loop-name : goal.invariant-loop-name
invariant-loop-name g l = record {
  same : Stays g.K.Keeper.is_told g.K.Keeper.tables l.fn.keeper l.keeper;
  lines : g.K.Keeper.is_told l.keeper → l.counted ++ map (λ name. record { name = name; count = count_of (g.K.Keeper.tables l.fn.keeper) name }) (drop l.name-index l.name-items) ≡ list (g.K.Keeper.tables l.fn.keeper);
  cause : g.K.Keeper.faults l.keeper ≡ g.K.Keeper.faults l.fn.keeper;
}
