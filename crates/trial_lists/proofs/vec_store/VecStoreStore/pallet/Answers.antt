use Rattle.std.proofs.Common.{◌≡◌, refl, subst}
use Rattle.hub_tables.specs.State.{pallet_of}
use Rattle.hub_tables.specs.Tables.{Tables, view}
use Rattle.trial_lists.specs.Lists.{tables_in}
use Rattle.trial_lists.proofs.vec_store.VecStoreStore.pallet.Goals as goal

pub returns-clause-looks : goal.returns-clause-looks
returns-clause-looks c = record {
  answers = λ _. let e : c.in_ok-pallet_with.field-0 ≡ pallet_of (view c.args.supplier.now
      (tables_in c.self.inside.lists)) c.args.sscc.now = rw c.as_slice-pallets.ensures.value at c.in_ok-pallet_with.ensures in
      subst (λ (t : Tables). c.in_ok-pallet_with.field-0 ≡ pallet_of (view c.args.supplier.now t) c.args.sscc.now) c.self.view_is e;
  content_stays = λ _. refl;
  left_stays = λ _ t h. h;
  was_honest = λ h. h;
  unclean = λ _ _ e. cc;
}
