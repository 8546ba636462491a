use Rattle.std.proofs.Common.{◌≡◌}
use Rattle.register_core.specs.Causes.{Stays}
use Rattle.register_core.proofs.Versions.{Looked}
use Rattle.register_core.proofs.register.store.Given as goal

-- none of the versions so far has the bytes
abbrev pub invariant-loop-place : goal.invariant-loop-place
invariant-loop-place g l = record {
  same : Stays g.K.Keeper.is_told g.K.Keeper.tables l.fn.keeper l.keeper;
  looked : g.K.Keeper.is_told l.keeper → Looked (g.K.Keeper.tables l.fn.keeper) l.name l.bytes l.count l.place;
  cause : g.K.Keeper.faults l.keeper ≡ g.K.Keeper.faults l.fn.keeper;
}
