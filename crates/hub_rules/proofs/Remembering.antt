-- Shows that what is accepted is remembered, or was already.
use Rattle.std.proofs.Common.{◌≡◌, ℕ, Bool, true, false, cond, not, List, [], ◌∷◌, Option, Some, None, refl, sym, ◌∙◌, ap}
use Rattle.std.specs.Bool.{⊤}
use Rattle.hub_parties.specs.declared.row.SupplierRow.{SupplierRow}
use Rattle.hub_tables.specs.Change.{apply_all}
use Rattle.hub_tables.specs.Rows.{same}
use Rattle.hub_tables.specs.State.{remembered_of}
use Rattle.hub_tables.specs.Tables.{Tables}
use Rattle.hub_tables.specs.declared.cases.Side.{Side}
use Rattle.hub_tables.specs.declared.change.Change.TheVariants.{Remember}
use Rattle.hub_tables.specs.declared.rows.RememberedRow.{RememberedRow}
use Rattle.hub_tables.proofs.Lists.{same_is, same_if}
use Rattle.hub_rules.specs.Judging.{Judge, refuse_if, joined}
use Rattle.hub_rules.specs.Laws.{Remembers}
use Rattle.hub_rules.specs.PartyRules.{is_other_buyer, if_registered}
use Rattle.hub_rules.specs.RepeatRules.{Reference, remembered, once, judge_once}
use Rattle.hub_rules.specs.Rules.{referred_by, judge_message}
use Rattle.hub_rules.specs.declared.code.Code.{Code}
use Rattle.hub_rules.specs.declared.code.Code.TheVariants as codes
use Rattle.hub_rules.specs.declared.incoming.IncomingMessage.{IncomingMessage}
use Rattle.hub_rules.specs.declared.verdict.Verdict.{Verdict}
use Rattle.hub_rules.specs.declared.verdict.Verdict.TheVariants.{Accept, Refuse}

module _ (r : Reference) (content : List ℕ) (state : Tables) where
  -- a new message
  new_remembers : remembered_of state r.side r.control r.message ≡ None
      → (rest : Verdict)
      → Remembers r content ⊤ state (joined (Remember (remembered r content) ∷ []) rest)
  new_remembers none (Refuse code) =
      record {
        first = λ change changes h. cc;
        repeated = (λ h. cc, λ there. let both : None ≡ Some (there.1).row = sym none ∙ (there.1).found in absurd (cc));
      }
  new_remembers none (Accept rest) =
      record {
        first = λ change changes h. cc;
        repeated = (λ h. cc, λ there. let both : None ≡ Some (there.1).row = sym none ∙ (there.1).found in absurd (cc));
      }

  -- a message that is remembered already
  old_remembers : (row : RememberedRow)
      → remembered_of state r.side r.control r.message ≡ Some row
      → (v : Bool)
      → same row.content content ≡ v
      → Remembers r content ⊤ state (cond v (Accept []) (Refuse codes.OtherContent))
  old_remembers row found true e =
      record {
        first = λ change changes h. cc;
        repeated = (λ h. (tt, record { row = row; found = found; says = same_is row.content content e }), λ there. refl);
      }
  old_remembers row found false e = record {
    first = λ change changes h. cc;
    repeated = (
      λ h. cc,
      λ there.
          let one : row ≡ (there.1).row = cc in
          let yes : same row.content content ≡ true =
          same_if row.content content (ap (λ (x : RememberedRow). x.content) one ∙ (there.1).says) in
          absurd (cc),
    );
  }

  once_remembers : (fresh : Judge) (found : Option RememberedRow)
      → remembered_of state r.side r.control r.message ≡ found
      → Remembers r content ⊤ state (once found content
      (joined (Remember (remembered r content) ∷ []) (fresh (apply_all (Remember (remembered r content) ∷ []) state))))
  once_remembers fresh None e = new_remembers e (fresh (apply_all (Remember (remembered r content) ∷ []) state))
  once_remembers fresh (Some row) e = old_remembers row e (same row.content content) refl

  judged_remembers : (fresh : Judge) → Remembers r content ⊤ state (judge_once r content fresh state)
  judged_remembers fresh = once_remembers fresh (remembered_of state r.side r.control r.message) refl

  -- after one more check
  checked_remembers : (A : Type 0) (b : Bool) (code : Code) (rest : Verdict)
      → Remembers r content A state rest
      → Remembers r content ((b ≡ false) × A) state (refuse_if b code rest)
  checked_remembers A true code rest there =
      record { first = λ change changes h. cc; repeated = (λ h. cc, λ both. let no = (both.0).0 in absurd (cc)) }
  checked_remembers A false code rest there =
      record {
        first = there.first;
        repeated =
            (λ h. let found = (there.repeated).0 h in ((refl, found.0), found.1), λ both. (there.repeated).1 ((both.0).1, both.1));
      }

  -- admitted by an equivalent condition
  admitted_by : (A B : Type 0) (verdict : Verdict)
      → (A → B)
      → (B → A)
      → Remembers r content A state verdict
      → Remembers r content B state verdict
  admitted_by A B verdict f g there =
      record {
        first = there.first;
        repeated = (λ h. let found = (there.repeated).0 h in (f found.0, found.1), λ both. (there.repeated).1 (g both.0, both.1));
      }

  -- by the supplier itself
  pub registered_remembers : (s : SupplierRow) (named : List ℕ) (fresh : Judge)
      → Remembers r content (named ≡ s.gln) state (if_registered (Some s) named (λ s. judge_once r content fresh state))
  registered_remembers s named fresh =
      admitted_by ((not (same named s.gln) ≡ false) × ⊤) (named ≡ s.gln) _
      (λ a. same_is named s.gln (not_false (same named s.gln) a.0)) (λ e. (ap not (same_if named s.gln e), tt))
      (checked_remembers ⊤ (not (same named s.gln)) codes.Supplier (judge_once r content fresh state) (judged_remembers fresh))
    where
      not_false : (v : Bool) → not v ≡ false → v ≡ true
      not_false true h = refl
      not_false false h = cc

-- a message
pub message_remembers : (s : SupplierRow) (state : Tables) (retailer : List ℕ) (side : Side) (incoming : IncomingMessage)
    (buyer : Option (List ℕ)) (named : List ℕ) (rest : SupplierRow → Judge)
    → Remembers (referred_by s side incoming) incoming.content ((is_other_buyer retailer buyer ≡ false) × (named ≡ s.gln))
    state (judge_message retailer (Some s) side incoming buyer named rest state)
message_remembers s state retailer side incoming buyer named rest =
    checked_remembers (referred_by s side incoming) incoming.content state (named ≡ s.gln) (is_other_buyer retailer buyer) codes.Buyer _
    (registered_remembers (referred_by s side incoming) incoming.content state s named (rest s))
