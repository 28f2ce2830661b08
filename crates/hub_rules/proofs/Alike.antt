-- Shows that SSCCs used by others matter to a verdict only under the supplier's own prefixes.
use Rattle.std.proofs.Common.{◌≡◌, ℕ, Bool, true, not, inl, inr, List, [], ◌∷◌, Option, Some, refl, ◌∙◌, ap}
use Rattle.gs1_ids.specs.Sscc.{under_some}
use Rattle.edi_documents.specs.EdiGoods.declared.despatch.Despatch.{Despatch}
use Rattle.edi_documents.specs.EdiGoods.declared.despatch.Unit.{Unit as PalletUnit}
use Rattle.hub_parties.specs.declared.row.SupplierRow.{SupplierRow}
use Rattle.hub_tables.specs.Change.{apply_all}
use Rattle.hub_tables.specs.Rows.{same}
use Rattle.hub_tables.specs.State.{knows_advice, remembered_of}
use Rattle.hub_tables.specs.Tables.{Tables}
use Rattle.hub_tables.specs.declared.cases.Side.{Side}
use Rattle.hub_tables.specs.declared.cases.Side.TheVariants as sides
use Rattle.hub_tables.specs.declared.change.Change.TheVariants.{AddAdvice, Remember}
use Rattle.hub_tables.proofs.Lists.{decide}
use Rattle.hub_rules.specs.DespatchRules.{judge_unit, judge_new_despatch}
use Rattle.hub_rules.specs.Judging.{Judge, refuse_if, joined, goes_on, in_turn, in_order}
use Rattle.hub_rules.specs.RepeatRules.{Reference, remembered, once, judge_once}
use Rattle.hub_rules.specs.PartyRules.{is_other_buyer}
use Rattle.hub_rules.specs.Rules.{referred_by, judge_message, judge_despatch}
use Rattle.hub_rules.specs.declared.code.Code.TheVariants as codes
use Rattle.hub_rules.specs.declared.incoming.IncomingMessage.{IncomingMessage}
use Rattle.hub_rules.specs.declared.verdict.Verdict.{Verdict}
use Rattle.hub_rules.specs.declared.verdict.Verdict.TheVariants.{Accept, Refuse}

-- judges that agree on every state
abbrev pub JudgesAgree : Judge → Judge → Type 0
JudgesAgree judge other = (state : Tables) → judge state ≡ other state

goes_on_alike : (first : Verdict) (second other : Judge)
    → JudgesAgree second other
    → (state : Tables)
    → goes_on first second state ≡ goes_on first other state
goes_on_alike (Refuse code) second other agree state = refl
goes_on_alike (Accept changes) second other agree state = ap (joined changes) (agree (apply_all changes state))

in_turn_alike : (first other_first second other : Judge)
    → JudgesAgree first other_first
    → JudgesAgree second other
    → JudgesAgree (in_turn first second) (in_turn other_first other)
in_turn_alike first other_first second other first_agree agree state =
    ap (λ v. goes_on v second state) (first_agree state) ∙ goes_on_alike (other_first state) second other agree state

in_order_alike : {X : Type 0} (judge other : X → Judge)
    → ((x : X) → JudgesAgree (judge x) (other x))
    → (xs : List X)
    → JudgesAgree (in_order judge xs) (in_order other xs)
in_order_alike judge other agree [] state = refl
in_order_alike judge other agree (x ∷ xs) state =
    in_turn_alike (judge x) (other x) (in_order judge xs) (in_order other xs) (agree x) (in_order_alike judge other agree xs)
    state

once_alike : (r : Reference) (content : List ℕ) (fresh other : Judge)
    → JudgesAgree fresh other
    → JudgesAgree (judge_once r content fresh) (judge_once r content other)
once_alike r content fresh other agree state =
    ap (once (remembered_of state r.side r.control r.message) content)
    (goes_on_alike (Accept (Remember (remembered r content) ∷ [])) fresh other agree state)

module _ (s : SupplierRow) where
  message_alike : (retailer : List ℕ) (side : Side) (incoming : IncomingMessage) (buyer : Option (List ℕ)) (named : List ℕ)
      (rest other : SupplierRow → Judge)
      → JudgesAgree (rest s) (other s)
      → JudgesAgree (judge_message retailer (Some s) side incoming buyer named rest)
      (judge_message retailer (Some s) side incoming buyer named other)
  message_alike retailer side incoming buyer named rest other agree state =
      ap (λ v. refuse_if (is_other_buyer retailer buyer) codes.Buyer (refuse_if (not (same named s.gln)) codes.Supplier v))
      (once_alike (referred_by s side incoming) incoming.content (rest s) (other s) agree state)

  module _ (used other : List ℕ → Bool) (agree : (sscc : List ℕ) → under_some sscc s.prefixes ≡ true → used sscc ≡ other sscc) where
    unit_alike : (advice : List ℕ) (unit : PalletUnit) → JudgesAgree (judge_unit s used advice unit) (judge_unit s other advice unit)
    unit_alike advice unit state =
        elim (decide (under_some unit.sscc s.prefixes)) [
          | inl e ↦ rw (agree unit.sscc e) refl
          | inr e ↦ rw e refl
        ]

    new_despatch_alike : (despatch : Despatch) → JudgesAgree (judge_new_despatch s used despatch) (judge_new_despatch s other despatch)
    new_despatch_alike despatch state =
        ap (refuse_if (knows_advice state despatch.number) codes.AdviceKnown)
        (goes_on_alike (Accept (AddAdvice (record { supplier = s.gln; number = despatch.number }) ∷ []))
        (in_order (judge_unit s used despatch.number) despatch.units)
        (in_order (judge_unit s other despatch.number) despatch.units)
        (in_order_alike (judge_unit s used despatch.number) (judge_unit s other despatch.number)
        (unit_alike despatch.number) despatch.units) state)

    pub despatch_alike : (retailer : List ℕ) (incoming : IncomingMessage) (despatch : Despatch)
        → JudgesAgree (judge_despatch retailer (Some s) used incoming despatch)
        (judge_despatch retailer (Some s) other incoming despatch)
    despatch_alike retailer incoming despatch =
        message_alike retailer sides.Supplier incoming despatch.buyer despatch.supplier
        (λ s. judge_new_despatch s used despatch) (λ s. judge_new_despatch s other despatch) (new_despatch_alike despatch)
