-- Defines how a store reports the result of a call on its connection.
use Rattle.std.specs.Prelude.{◌≡◌, ◌≢◌, Option, None, Result, Ok, Err, IfOk, IfErr}
use Rattle.sqlite.specs.Schema.{Schema}
use Rattle.hub_schema.specs.Schema.{hub_schema}
use Rattle.hub_store.specs.Calls.{broken_after}
use Rattle.hub_store.specs.declared.fault.LastingFault.{LastingFault}
use Rattle.hub_store.specs.declared.fault.StoreFault.{StoreFault}
use Rattle.hub_store.specs.declared.fault.StoreFault.TheVariants.{Memory, Disk, Unclean, Version}

-- A value is passed on. A fault is lasting, except `Memory` while the connection has the hub's schema.
pub record Settles {X : Type 0} (found : Result X StoreFault) (schema : Schema) (result : Result X StoreFault)
    (fault : Option LastingFault) : Type 0 where
  pub value : IfOk result (λ x. found ≡ Ok x)
  pub failed : IfErr result (λ _. IfErr found (λ _. Unit {0}))
  pub memory : found ≡ Err Memory → schema ≡ hub_schema → result ≡ Err Memory
  pub disk : found ≡ Err Disk → result ≡ Err Disk
  pub unclean : result ≡ Err Unclean → found ≡ Err Unclean
  pub version : result ≢ Err Version
  pub lasting : fault ≡ broken_after None result
  pub usable : IfErr result (λ _. fault ≡ None → schema ≡ hub_schema)
