-- Shows that the checks before those of a message or a cancellation keep a supplier's rows sound.
use Rattle.std.proofs.Common.{◌≡◌, ℕ, true, false, cond, not, ◌⊎◌, inl, inr, List, [], ◌∷◌, Option, Some, None, refl}
use Rattle.hub_parties.specs.declared.row.SupplierRow.{SupplierRow}
use Rattle.hub_tables.specs.Rows.{same}
use Rattle.hub_tables.specs.State.{remembered_of}
use Rattle.hub_tables.specs.declared.cases.Side.{Side}
use Rattle.hub_tables.specs.declared.change.Change.{Change}
use Rattle.hub_tables.specs.declared.change.Change.TheVariants.{Remember}
use Rattle.hub_tables.specs.declared.rows.RememberedRow.{RememberedRow}
use Rattle.hub_tables.proofs.Lists.{none_if_not_found}
use Rattle.hub_rules.specs.Laws.{KeptOwn}
use Rattle.hub_rules.specs.Judging.{Judge, in_turn, gives}
use Rattle.hub_rules.specs.Sound.{same_reference}
use Rattle.hub_rules.specs.RepeatRules.{Reference, remembered, once, judge_once}
use Rattle.hub_rules.specs.PartyRules.{is_other_buyer}
use Rattle.hub_rules.specs.Rules.{referred_by, judge_message}
use Rattle.hub_rules.specs.declared.code.Code.TheVariants as codes
use Rattle.hub_rules.specs.declared.incoming.IncomingMessage.{IncomingMessage}
use Rattle.hub_rules.specs.declared.verdict.Verdict.{Verdict}
use Rattle.hub_rules.specs.declared.verdict.Verdict.TheVariants.{Accept, Refuse}
use Rattle.hub_rules.proofs.GoodRows.{leaves_good}
use Rattle.hub_rules.proofs.Keeping.{kept_remembered}
use Rattle.hub_rules.proofs.Verdicts.{not_refused, Leads, leaves_given, leaves_nothing, leaves_in_turn}

once_cases : (row : Option RememberedRow) (content : List ℕ) (fresh : Verdict) (changes : List Change)
    → once row content fresh ≡ Accept changes
    → (◌≡◌ {A = Verdict} (Accept []) (Accept changes)) ⊎ ((row ≡ None) × (fresh ≡ Accept changes))
once_cases None content fresh changes h = inr (refl, h)
once_cases (Some row) content fresh changes h =
    elim (same row.content content) as
    (λ v. ◌≡◌ {A = Verdict} (cond v (Accept []) (Refuse codes.OtherContent)) (Accept changes)
    → (◌≡◌ {A = Verdict} (Accept []) (Accept changes)) ⊎ ((Some row ≡ None) × (fresh ≡ Accept changes))) [
      | true ↦ λ g. inl g
      | false ↦ λ g. cc
    ] h

module _ (s : SupplierRow) where
  pub leads_once : (r : Reference) (content : List ℕ) (fresh : Judge)
      → r.supplier ≡ s.gln
      → Leads s (KeptOwn s) (KeptOwn s) fresh
      → Leads s (KeptOwn s) (KeptOwn s) (judge_once r content fresh)
  leads_once r content fresh whose f state changes good h =
      elim (once_cases (remembered_of state r.side r.control r.message) content
      (in_turn (gives (Remember (remembered r content) ∷ [])) fresh state) changes h) [
        | inl e ↦ leaves_given s (KeptOwn s) state [] changes e (leaves_nothing s (KeptOwn s) state good)
        | inr g ↦
            let new = none_if_not_found (λ row. same_reference row (remembered r content)) state.remembered g.0 in
            leaves_in_turn s (KeptOwn s) (KeptOwn s) (Remember (remembered r content) ∷ []) fresh state changes
            (leaves_good s state (Remember (remembered r content)) whose good.own
            (kept_remembered state good.kept (remembered r content) new)) f g.1
      ]

  pub leads_message : (retailer : List ℕ) (side : Side) (incoming : IncomingMessage) (buyer : Option (List ℕ))
      (named : List ℕ) (rest : SupplierRow → Judge)
      → Leads s (KeptOwn s) (KeptOwn s) (rest s)
      → Leads s (KeptOwn s) (KeptOwn s) (judge_message retailer (Some s) side incoming buyer named rest)
  leads_message retailer side incoming buyer named rest f state changes good h =
      let a = not_refused (is_other_buyer retailer buyer) codes.Buyer _ changes h in
      let b = not_refused (not (same named s.gln)) codes.Supplier _ changes a.1 in
      leads_once (referred_by s side incoming) incoming.content (rest s) refl f state changes good b.1
