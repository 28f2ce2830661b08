use Rattle.std.proofs.Common.{sym, subst, ◌∙◌}
use Rattle.hub_tables.specs.Register.{HoldsRegister}
use Rattle.sqlite.proofs.Callers.{memory_is_clean}
use Rattle.hub_sql.proofs.founding.SqliteStore+MemStore.in_memory.Goals as goal

pub returns-in-Ok-found_with_register-clause-rows : goal.returns-in-Ok-found_with_register-clause-rows
returns-in-Ok-found_with_register-clause-rows c = c.in-Ok-found_with_register.ensures.holds.rows_are (memory_is_clean
    c.in-Ok-found_with_register.store.held)

pub returns-in-Ok-found_with_register-clause-crash : goal.returns-in-Ok-found_with_register-clause-crash
returns-in-Ok-found_with_register-clause-crash c =
    let clean = memory_is_clean c.in-Ok-found_with_register.store.held in
    λ t left. c.in-Ok-found_with_register.ensures.holds.crash clean t left ∙ c.in-Ok-found_with_register.ensures.holds.rows_are clean

pub returns-in-Ok-found_with_register-clause-register : goal.returns-in-Ok-found_with_register-clause-register
returns-in-Ok-found_with_register-clause-register c =
    subst HoldsRegister (sym (c.in-Ok-found_with_register.ensures.holds.rows_are (memory_is_clean c.in-Ok-found_with_register.store.held)))
    (c.founded_tables_hold_their_register.ensures.holds c.args.register.now c.found_with_register.ensures.register)
