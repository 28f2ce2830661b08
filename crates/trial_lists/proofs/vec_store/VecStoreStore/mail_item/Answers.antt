use Rattle.std.proofs.Common.{◌≡◌, refl, subst}
use Rattle.hub_tables.specs.State.{entry_at}
use Rattle.hub_tables.specs.Tables.{Tables, view}
use Rattle.trial_lists.specs.Lists.{tables_in}
use Rattle.trial_lists.proofs.vec_store.VecStoreStore.mail_item.Goals as goal

pub returns-clause-looks : goal.returns-clause-looks
returns-clause-looks c = record {
  answers = λ _. let e : c.in_ok-entry_with.field-0 ≡ entry_at (view c.args.supplier.now
      (tables_in c.self.inside.lists)) c.args.number = rw c.as_slice-mail.ensures.value at c.in_ok-entry_with.ensures in
      subst (λ (t : Tables). c.in_ok-entry_with.field-0 ≡ entry_at (view c.args.supplier.now t) c.args.number) c.self.view_is e;
  content_stays = λ _. refl;
  left_stays = λ _ t h. h;
  was_honest = λ h. h;
  unclean = λ _ _ e. cc;
}
