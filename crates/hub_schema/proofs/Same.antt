-- Shows that what is known of a connection also holds for another that shows the same tables.
use Rattle.std.proofs.Common.{◌≡◌, ap, sym, subst, ◌∙◌}
use Rattle.sqlite.specs.Effect.{IsDatabase}
use Rattle.sqlite.specs.State.{State}
use Rattle.hub_schema.specs.State.{HasTables, IsHub, IsOldHub, AreOrdered, AreOldOrdered, IsNumbered, HasNumber}

pub same_hub : (old new : State) → new.now ≡ old.now → IsHub old → IsHub new
same_hub old new same hub = record {
  schema = ap (λ d. d.schema) same ∙ hub.schema;
  numbered = subst (λ d. IsNumbered d.trees) (sym same) hub.numbered;
  ordered = subst (λ d. AreOrdered d.trees) (sym same) hub.ordered;
  sound = subst IsDatabase (sym same) hub.sound;
}

pub same_old_hub : (old new : State) → new.now ≡ old.now → IsOldHub old → IsOldHub new
same_old_hub old new same hub = record {
  schema = ap (λ d. d.schema) same ∙ hub.schema;
  numbered = subst (λ d. HasNumber 1 d.trees) (sym same) hub.numbered;
  ordered = subst (λ d. AreOldOrdered d.trees) (sym same) hub.ordered;
  sound = subst IsDatabase (sym same) hub.sound;
}

pub same_tables : (old new : State) → new.now ≡ old.now → HasTables old → HasTables new
same_tables old new same has = record {
  schema = ap (λ d. d.schema) same ∙ has.schema;
  ordered = subst (λ d. AreOrdered d.trees) (sym same) has.ordered;
  sound = subst IsDatabase (sym same) has.sound;
}
