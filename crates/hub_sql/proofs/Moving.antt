-- Carries what is known of one connection over to another.
use Rattle.std.proofs.Common.{◌≡◌, IsTrue, sym, subst, ◌∙◌}
use Rattle.sqlite.specs.Effect.{IsDatabase}
use Rattle.sqlite.specs.State.{State}
use Rattle.hub_schema.specs.State.{HasTables, IsHub, IsNumbered}
use Rattle.hub_sql.specs.Opening.{IsReady}

pub ready_as_before : (old new : State) → new.now ≡ old.now → new.committed ≡ old.committed → IsTrue new.is_open
    → IsReady old → IsReady new
ready_as_before old new same committed is_open ready = record {
  up = is_open;
  shown = same ∙ ready.shown ∙ sym committed;
  sound = subst IsDatabase (sym same) ready.sound;
}

-- tables of schema 2 or 3 with the number of schema 3 are a hub's
pub numbered_hub : (s : State) → HasTables s → IsNumbered s.now.trees → IsHub s
numbered_hub s has number =
    record { schema = has.schema; numbered = number; ordered = has.ordered; sound = has.sound }
