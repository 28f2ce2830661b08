-- Defines what making a hub does.
use Rattle.std.specs.Prelude.{Result}
use Rattle.hub_parties.specs.Rows.{RegisterRows}
use Rattle.hub_tables.specs.Register.{HoldsRegister, register_of}
use Rattle.hub_store.specs.Calls.{Looks, Fails, ReadsRegister}
use Rattle.hub_store.specs.declared.fault.StoreFault.{StoreFault}
use Rattle.hub_store.specs.declared.store.Store.{Ghosts}

-- The register in a store's rows was read: what was returned, and how the store was left, whether
-- or not its rows hold a register, and more if they do.
pub record MakesHub {S : Type 0} (g : Ghosts S) (old new : S) (result : Result RegisterRows StoreFault) : Type 0 where
  pub looks : (g.honest old → HoldsRegister (g.content old)) →
      Looks g.content g.honest g.left g.broken old new (register_of (g.content old)) result
  pub fails : (g.honest old → HoldsRegister (g.content old)) → Fails g.plain (g.broken old) (g.broken new) result
  pub held : ReadsRegister g.content g.honest g.left g.broken g.plain old new result
