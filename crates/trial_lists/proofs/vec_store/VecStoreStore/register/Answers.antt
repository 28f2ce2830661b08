use Rattle.std.proofs.Common.{◌≡◌, List, Option, Some, None, refl, sym, subst}
use Rattle.hub_founding.specs.Founding.{IsHeldBy}
use Rattle.hub_parties.specs.KeyOrder.{Rises}
use Rattle.hub_parties.specs.Rows.{RegisterRows}
use Rattle.hub_tables.specs.Register.{HoldsRegister, register_of}
use Rattle.hub_tables.specs.Rows.{key_cmp, prefix_cmp}
use Rattle.hub_tables.specs.Sets.{Rising}
use Rattle.hub_tables.specs.Tables.{Tables}
use Rattle.hub_tables.specs.declared.rows.HubRow.{HubRow}
use Rattle.hub_tables.specs.declared.rows.KeyRow.{KeyRow}
use Rattle.hub_tables.specs.declared.rows.PrefixRow.{PrefixRow}
use Rattle.trial_lists.specs.Lists.{tables_in}
use Rattle.trial_lists.proofs.vec_store.VecStoreStore.register.Goals as goal

-- what is found in rising tables
module _ (t : Tables) (rising : Rising t) (found : Option RegisterRows) (hubs : List HubRow) (keys : List KeyRow)
    (prefixes : List PrefixRow) (of : (u : Tables) → u.hubs ≡ hubs → u.keys ≡ keys → u.prefixes ≡ prefixes
    → Rises key_cmp u.keys → Rises prefix_cmp u.prefixes → IsHeldBy u found)
    (same_hubs : hubs ≡ t.hubs) (same_keys : keys ≡ t.keys) (same_prefixes : prefixes ≡ t.prefixes) where
  held : IsHeldBy t found
  held = of t (sym same_hubs) (sym same_keys) (sym same_prefixes) rising.keys rising.prefixes

  -- if they hold a register, it is found
  not_none : (u : Tables) → t ≡ u → HoldsRegister u → found ≡ None → ⊥
  not_none u same holds none = subst (IsHeldBy t) none held (subst HoldsRegister (sym same) holds)

  -- what is found is the register that they hold
  this_one : (u : Tables) → t ≡ u → (register : RegisterRows) → found ≡ Some register → IsHeldBy u (Some register)
  this_one u same register some = subst (λ (t : Tables). IsHeldBy t (Some register)) same (subst (IsHeldBy t) some held)

  that_one : (u : Tables) → t ≡ u → (register : RegisterRows) → found ≡ Some register → register ≡ register_of u
  that_one u same register some = (this_one u same register some).1

pub returns-in_default-clause-looks : goal.returns-in_default-clause-looks
returns-in_default-clause-looks c holds =
    absurd (not_none (tables_in c.self.inside.lists) c.self.invariant.rising c.in_ok-register.field-0 _ _ _ c.in_ok-register.ensures
    c.as_slice-hubs.ensures.value c.as_slice-keys.ensures.value c.as_slice-prefixes.ensures.value c.args.self.now c.self.view_is
    (holds tt) c.in_default.is)

pub returns-in_default-clause-fails : goal.returns-in_default-clause-fails
returns-in_default-clause-fails c holds =
    absurd (not_none (tables_in c.self.inside.lists) c.self.invariant.rising c.in_ok-register.field-0 _ _ _ c.in_ok-register.ensures
    c.as_slice-hubs.ensures.value c.as_slice-keys.ensures.value c.as_slice-prefixes.ensures.value c.args.self.now c.self.view_is
    (holds tt) c.in_default.is)

pub returns-clause-looks : goal.returns-clause-looks
returns-clause-looks c holds = record {
  answers = λ _. that_one (tables_in c.self.inside.lists) c.self.invariant.rising c.in_ok-register.field-0 _ _ _
      c.in_ok-register.ensures c.as_slice-hubs.ensures.value c.as_slice-keys.ensures.value c.as_slice-prefixes.ensures.value
      c.args.self.now c.self.view_is c.in-Some.register c.in-Some.is;
  content_stays = λ _. refl;
  left_stays = λ _ t h. h;
  was_honest = λ h. h;
  unclean = λ _ _ e. cc;
}

pub returns-clause-held : goal.returns-clause-held
returns-clause-held c = record {
  held = λ _. this_one (tables_in c.self.inside.lists) c.self.invariant.rising c.in_ok-register.field-0 _ _ _
      c.in_ok-register.ensures c.as_slice-hubs.ensures.value c.as_slice-keys.ensures.value c.as_slice-prefixes.ensures.value
      c.args.self.now c.self.view_is c.in-Some.register c.in-Some.is;
  content_stays = λ _. refl;
  left_stays = λ _ t h. h;
  was_honest = λ h. h;
  again = tt;
  fails = λ _. record { again = tt; after = refl; not_version = tt; only_memory = λ _. tt };
}
