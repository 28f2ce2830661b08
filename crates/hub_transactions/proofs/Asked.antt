-- Proves that the decision on a message depends only on the lines that it asks for.
use Rattle.std.proofs.Common.{◌≡◌, ℕ, ◌+◌, ◌-◌, nat_lt, ◌==◌, Bool, true, false, not, cond, ◌||◌, List, [], ◌∷◌, ◌++◌, find}
use Rattle.std.proofs.Common.{Option, Some, None, option_map, refl, sym, ap, ap₂, subst, ◌∙◌}
use Rattle.std.specs.List.{list_any, AllByRecursion}
use Rattle.edi_goods.specs.declared.despatch.Despatch.{Despatch}
use Rattle.edi_goods.specs.declared.despatch.DespatchLine.{DespatchLine}
use Rattle.edi_goods.specs.declared.despatch.Unit.{Unit}
use Rattle.edi_orders.specs.declared.response.Answer.TheVariants.{Lines}
use Rattle.edi_orders.specs.declared.response.AnswerLine.{AnswerLine}
use Rattle.edi_orders.specs.declared.response.Response.{Response}
use Rattle.hub_parties.specs.KeyOrder.{replace}
use Rattle.hub_parties.specs.declared.row.SupplierRow.{SupplierRow}
use Rattle.gs1_ids.specs.Sscc.{under_some}
use Rattle.hub_tables.specs.Cases.{arrival_number}
use Rattle.hub_tables.specs.declared.cases.Arrival.TheVariants.{Announced}
use Rattle.hub_tables.specs.Change.{apply, apply_all}
use Rattle.hub_tables.specs.Rows.{same, same_line}
use Rattle.hub_tables.specs.State.{knows_order, knows_advice, lines_of, line_of, line_among, despatched, waits, remembered_of}
use Rattle.hub_tables.specs.Tables.{Tables, has_pallet}
use Rattle.hub_tables.specs.declared.change.Change.{Change}
use Rattle.hub_tables.specs.declared.change.Change.TheVariants.{AddHub, SetHub, AddKey, SetKey, AddPrefix}
use Rattle.hub_tables.specs.declared.change.Change.TheVariants.{AddOrder, AddLine, SetLine, AddAdvice}
use Rattle.hub_tables.specs.declared.change.Change.TheVariants.{AddPallet, SetPallet, AddContent, AddReceipt, ClearReceipts}
use Rattle.hub_tables.specs.declared.change.Change.TheVariants.{Remember, AddMail, SetMail}
use Rattle.hub_tables.specs.declared.rows.AdviceRow.{AdviceRow}
use Rattle.hub_tables.specs.declared.rows.LineRow.{LineRow}
use Rattle.hub_tables.specs.declared.rows.PalletRow.{PalletRow}
use Rattle.hub_tables.proofs.KindOrders.{line_key}
use Rattle.hub_order_lines.specs.KnownOrders.{adds_lines}
use Rattle.hub_order_lines.proofs.RowsOfOrder.{set_among_order}
use Rattle.hub_rules.specs.DespatchRules.{judge_despatched, judge_unit, judge_new_despatch, placed}
use Rattle.hub_rules.specs.Judging.{Judge, refuse_if, given, joined, goes_on, gives, in_turn, in_order}
use Rattle.hub_rules.specs.PartyRules.{is_other_buyer}
use Rattle.hub_rules.specs.RepeatRules.{once, remembered}
use Rattle.hub_rules.specs.ResponseRules.{judge_answer, judge_answers, judge_new_response, answered, is_out_of_range}
use Rattle.hub_rules.specs.Rules.{judge_message, referred_by}
use Rattle.hub_rules.specs.declared.incoming.IncomingMessage.{IncomingMessage}
use Rattle.hub_tables.specs.declared.cases.Side.{Side}
use Rattle.hub_rules.specs.declared.code.Code.{Code}
use Rattle.hub_rules.specs.declared.code.Code.TheVariants as codes
use Rattle.hub_rules.specs.declared.verdict.Verdict.{Verdict}
use Rattle.hub_rules.specs.declared.verdict.Verdict.TheVariants.{Accept, Refuse}
use Rattle.hub_transactions.specs.Orders.{bare, AgreeOnLines}
use Rattle.hub_transactions.proofs.KeptOrders.{first_none, later_none}

-- an accepted message adds no order and no line
abbrev pub Tame : Verdict → Type 0
Tame verdict = (changes : List Change) → verdict ≡ Accept changes → list_any adds_lines changes ≡ false

refuses_tame : (code : Code) → Tame (Refuse code)
refuses_tame code changes is = absurd (cc (is))

accepts_tame : (changes : List Change) → list_any adds_lines changes ≡ false → Tame (Accept changes)
accepts_tame changes none others is = let same_changes : changes ≡ others = cc in subst (λ cs. list_any adds_lines cs
    ≡ false) same_changes none

refused_tame : (test : Bool) (code : Code) (rest : Verdict) → Tame rest → Tame (refuse_if test code rest)
refused_tame true code rest tame = refuses_tame code
refused_tame false code rest tame = tame

given_tame : {X : Type 0} (found : Option X) (code : Code) (rest : X → Verdict) → ((x : X) → Tame (rest x)) → Tame (given found code rest)
given_tame None code rest tame = refuses_tame code
given_tame (Some x) code rest tame = tame x

none_in_both : (first rest : List Change) → list_any adds_lines first ≡ false → list_any adds_lines rest ≡ false
    → list_any adds_lines (first ++ rest) ≡ false
none_in_both [] rest none others = others
none_in_both (change ∷ first) rest none others =
    ap₂ (λ v w. v || w) (first_none change first none) (none_in_both first rest (later_none change first none) others)

joined_tame : (first : List Change) → list_any adds_lines first ≡ false → (rest : Verdict) → Tame rest → Tame (joined first rest)
joined_tame first none (Refuse code) tame = refuses_tame code
joined_tame first none (Accept rest) tame = accepts_tame (first ++ rest) (none_in_both first rest none (tame rest refl))

-- which lines are asked for
module _ (asks : List ℕ → Option ℕ → Bool) where
  -- a check that decides the same over such tables, and adds no order and no line
  pub record Local (judge : Judge) : Type 0 where
    pub says : (a b : Tables) → AgreeOnLines asks a b → judge a ≡ judge b
    pub tame : (a : Tables) → Tame (judge a)

  line_agrees : (a b : Tables) → AgreeOnLines asks a b → (order : List ℕ) (number : Option ℕ) (gtin : List ℕ) → asks order number ≡ true
      → line_of a order number gtin ≡ line_of b order number gtin
  line_agrees a b agree order None gtin asked = ap (λ lines. line_among lines None gtin) (agree.all order asked)
  line_agrees a b agree order (Some number) gtin asked = agree.one order number asked

  find_set : (row : LineRow) (number : ℕ) (lines : List LineRow)
      → find (λ line. line.line == number) (replace (same_line row) row lines)
      ≡ option_map (λ line. cond (same_line row line) row line) (find (λ line. line.line == number) lines)
  find_set row number [] = refl
  find_set row number (line ∷ lines) = by (find_set row number lines) (same_line row line) refl (line.line == number) refl
    where
      found : Bool → LineRow → Option LineRow → Option LineRow
      found v one others = cond v (Some one) others

      by : find (λ line. line.line == number) (replace (same_line row) row lines)
          ≡ option_map (λ line. cond (same_line row line) row line) (find (λ line. line.line == number) lines)
          → (v : Bool) → same_line row line ≡ v → (w : Bool) → (line.line == number) ≡ w
          → found ((cond (same_line row line) row line).line == number) (cond (same_line row line) row line)
          (find (λ line. line.line == number) (replace (same_line row) row lines))
          ≡ option_map (λ line. cond (same_line row line) row line)
          (found (line.line == number) line (find (λ line. line.line == number) lines))
      by rest true e true k =
          let key : (row.line == number) ≡ true = ap (λ n. n == number) (sym (line_key row line e).2) ∙ k in
          ap (λ (v : Bool). found ((cond v row line).line == number) (cond v row line)
          (find (λ line. line.line == number) (replace (same_line row) row lines))) e
          ∙ ap (λ (v : Bool). found v row (find (λ line. line.line == number) (replace (same_line row) row lines))) key
          ∙ ap (λ (v : Bool). Some (cond v row line)) (sym e)
          ∙ sym (ap (λ (v : Bool). option_map (λ line. cond (same_line row line) row line)
          (found v line (find (λ line. line.line == number) lines))) k)
      by rest true e false k =
          let key : (row.line == number) ≡ false = ap (λ n. n == number) (sym (line_key row line e).2) ∙ k in
          ap (λ (v : Bool). found ((cond v row line).line == number) (cond v row line)
          (find (λ line. line.line == number) (replace (same_line row) row lines))) e
          ∙ ap (λ (v : Bool). found v row (find (λ line. line.line == number) (replace (same_line row) row lines))) key
          ∙ rest
          ∙ sym (ap (λ (v : Bool). option_map (λ line. cond (same_line row line) row line)
          (found v line (find (λ line. line.line == number) lines))) k)
      by rest false e true k =
          ap (λ (v : Bool). found ((cond v row line).line == number) (cond v row line)
          (find (λ line. line.line == number) (replace (same_line row) row lines))) e
          ∙ ap (λ (v : Bool). found v line (find (λ line. line.line == number) (replace (same_line row) row lines))) k
          ∙ ap (λ (v : Bool). Some (cond v row line)) (sym e)
          ∙ sym (ap (λ (v : Bool). option_map (λ line. cond (same_line row line) row line)
          (found v line (find (λ line. line.line == number) lines))) k)
      by rest false e false k =
          ap (λ (v : Bool). found ((cond v row line).line == number) (cond v row line)
          (find (λ line. line.line == number) (replace (same_line row) row lines))) e
          ∙ ap (λ (v : Bool). found v line (find (λ line. line.line == number) (replace (same_line row) row lines))) k
          ∙ rest
          ∙ sym (ap (λ (v : Bool). option_map (λ line. cond (same_line row line) row line)
          (found v line (find (λ line. line.line == number) lines))) k)

  set_agrees : (row : LineRow) (a b : Tables) → AgreeOnLines asks a b → AgreeOnLines asks (apply (SetLine row) a) (apply (SetLine row) b)
  set_agrees row a b agree = record {
    rest = agree.rest;
    one = λ order number asked.
        ap (find (λ line. line.line == number)) (set_among_order row order a.lines)
        ∙ find_set row number (lines_of a order)
        ∙ ap (option_map (λ line. cond (same_line row line) row line)) (agree.one order number asked)
        ∙ sym (find_set row number (lines_of b order))
        ∙ ap (find (λ line. line.line == number)) (sym (set_among_order row order b.lines));
    all = λ order asked.
        set_among_order row order a.lines
        ∙ ap (replace (same_line row) row) (agree.all order asked)
        ∙ sym (set_among_order row order b.lines);
  }

  change_agrees : (change : Change) (a b : Tables) → adds_lines change ≡ false → AgreeOnLines asks a b
      → AgreeOnLines asks (apply change a) (apply change b)
  change_agrees (SetLine row) a b none agree = set_agrees row a b agree
  change_agrees (AddHub row) a b none agree = record { rest = ap (apply (AddHub row)) agree.rest; one = agree.one; all = agree.all }
  change_agrees (SetHub row) a b none agree = record { rest = ap (apply (SetHub row)) agree.rest; one = agree.one; all = agree.all }
  change_agrees (AddKey row) a b none agree = record { rest = ap (apply (AddKey row)) agree.rest; one = agree.one; all = agree.all }
  change_agrees (SetKey row) a b none agree = record { rest = ap (apply (SetKey row)) agree.rest; one = agree.one; all = agree.all }
  change_agrees (AddPrefix row) a b none agree = record { rest = ap (apply (AddPrefix row)) agree.rest; one = agree.one; all = agree.all }
  change_agrees (AddOrder row) a b none agree = absurd (cc)
  change_agrees (AddLine row) a b none agree = absurd (cc)
  change_agrees (AddAdvice row) a b none agree = record { rest = ap (apply (AddAdvice row)) agree.rest; one = agree.one; all = agree.all }
  change_agrees (AddPallet row) a b none agree = record { rest = ap (apply (AddPallet row)) agree.rest; one = agree.one; all = agree.all }
  change_agrees (SetPallet row) a b none agree = record { rest = ap (apply (SetPallet row)) agree.rest; one = agree.one; all = agree.all }
  change_agrees (AddContent row) a b none agree = record { rest = ap (apply (AddContent row)) agree.rest; one = agree.one; all = agree.all }
  change_agrees (AddReceipt row) a b none agree = record { rest = ap (apply (AddReceipt row)) agree.rest; one = agree.one; all = agree.all }
  change_agrees (ClearReceipts sscc) a b none agree =
      record { rest = ap (apply (ClearReceipts sscc)) agree.rest; one = agree.one; all = agree.all }
  change_agrees (Remember row) a b none agree = record { rest = ap (apply (Remember row)) agree.rest; one = agree.one; all = agree.all }
  change_agrees (AddMail row) a b none agree = record { rest = ap (apply (AddMail row)) agree.rest; one = agree.one; all = agree.all }
  change_agrees (SetMail row) a b none agree = record { rest = ap (apply (SetMail row)) agree.rest; one = agree.one; all = agree.all }

  changes_agree : (changes : List Change) (a b : Tables) → list_any adds_lines changes ≡ false → AgreeOnLines asks a b
      → AgreeOnLines asks (apply_all changes a) (apply_all changes b)
  changes_agree [] a b none agree = agree
  changes_agree (change ∷ changes) a b none agree =
      changes_agree changes (apply change a) (apply change b) (later_none change changes none)
      (change_agrees change a b (first_none change changes none) agree)

  -- Checks in sequence.

  goes_on_local : (a b : Tables) → AgreeOnLines asks a b → (first : Verdict) → Tame first → (second : Judge) → Local second
      → goes_on first second a ≡ goes_on first second b
  goes_on_local a b agree (Refuse code) tame second local = refl
  goes_on_local a b agree (Accept changes) tame second local =
      ap (joined changes) (local.says (apply_all changes a) (apply_all changes b) (changes_agree changes a b (tame changes refl) agree))

  tame_goes_on : (first : Verdict) → Tame first → (second : Judge) → Local second → (a : Tables) → Tame (goes_on first second a)
  tame_goes_on (Refuse code) tame second local a = refuses_tame code
  tame_goes_on (Accept changes) tame second local a =
      joined_tame changes (tame changes refl) (second (apply_all changes a)) (local.tame (apply_all changes a))

  pub in_turn_local : (first second : Judge) → Local first → Local second → Local (in_turn first second)
  in_turn_local first second one two = record {
    says = λ a b agree. ap (λ v. goes_on v second a) (one.says a b agree) ∙ goes_on_local a b agree (first b) (one.tame b) second two;
    tame = λ a. tame_goes_on (first a) (one.tame a) second two a;
  }

  pub gives_local : (changes : List Change) → list_any adds_lines changes ≡ false → Local (gives changes)
  gives_local changes none = record { says = λ a b agree. refl; tame = λ a. accepts_tame changes none }

  pub in_order_local : {X : Type 0} (judge : X → Judge) (xs : List X) → AllByRecursion (λ x. Local (judge x)) xs → Local (in_order judge xs)
  in_order_local judge [] all = gives_local [] refl
  in_order_local judge (x ∷ xs) all = in_turn_local (judge x) (in_order judge xs) all.0 (in_order_local judge xs all.1)

  pub answer_local : (order : List ℕ) (said : AnswerLine) → asks order said.order_line ≡ true → Local (judge_answer order said)
  answer_local order said asked = record {
    says = λ a b agree.
        ap₂ verdict_of (line_agrees a b agree order said.order_line said.gtin asked) (sent_of a b agree.rest);
    tame = λ a. given_tame (line_of a order said.order_line said.gtin) codes.NoLine _ (λ line.
        refused_tame (not (waits line)) codes.NotWaiting _ (
        refused_tame (is_out_of_range said.answer (despatched a line) line) codes.OutOfRange _ (
        refused_tame (not (same line.gtin said.gtin)) codes.OtherArticle _ (accepts_tame _ refl))));
  }
    where
      sent_in : Tables → LineRow → ℕ
      sent_in t line = despatched t line

      sent_of : (a b : Tables) → bare a ≡ bare b → sent_in a ≡ sent_in b
      sent_of a b alike = ap sent_in alike

      verdict_of : Option LineRow → (LineRow → ℕ) → Verdict
      verdict_of found sent =
          given found codes.NoLine (λ line.
          refuse_if (not (waits line)) codes.NotWaiting (
          refuse_if (is_out_of_range said.answer (sent line) line) codes.OutOfRange (
          refuse_if (not (same line.gtin said.gtin)) codes.OtherArticle (
          Accept (SetLine (answered said.answer (sent line) line) ∷ [])))))

  pub despatched_local : (sscc : List ℕ) (place : ℕ) (said : DespatchLine) → asks said.order said.order_line ≡ true
      → Local (judge_despatched sscc (place, said))
  despatched_local sscc place said asked = record {
    says = λ a b agree.
        ap₂ verdict_of (ap (λ (t : Tables). knows_order t said.order) agree.rest)
        (line_agrees a b agree said.order said.order_line said.gtin asked);
    tame = λ a. refused_tame (not (knows_order a said.order)) codes.NoOrder _ (
        given_tame (line_of a said.order said.order_line said.gtin) codes.NoLine _ (λ line.
        refused_tame (not (same line.gtin said.gtin)) codes.OtherArticle _ (
        refused_tame (nat_lt line.open_qty said.quantity) codes.MoreThanOpen _ (accepts_tame _ refl))));
  }
    where
      verdict_of : Bool → Option LineRow → Verdict
      verdict_of known found =
          refuse_if (not known) codes.NoOrder (
          given found codes.NoLine (λ line.
          refuse_if (not (same line.gtin said.gtin)) codes.OtherArticle (
          refuse_if (nat_lt line.open_qty said.quantity) codes.MoreThanOpen (
          Accept (
          SetLine (record line { open_qty = line.open_qty - said.quantity })
          ∷ AddContent (record { sscc = sscc; place = place; number = line.number; line = line.line; quantity = said.quantity })
          ∷ [])))))

  abbrev pub AsksLine : DespatchLine → Type 0
  AsksLine said = asks said.order said.order_line ≡ true

  placed_local : (sscc : List ℕ) (n : ℕ) (lines : List DespatchLine) → AllByRecursion AsksLine lines
      → AllByRecursion (λ one. Local (judge_despatched sscc one)) (placed n lines)
  placed_local sscc n [] all = tt
  placed_local sscc n (line ∷ lines) all = (despatched_local sscc (n + 1) line all.0, placed_local sscc (n + 1) lines all.1)

  pub unit_local : (s : SupplierRow) (used : List ℕ → Bool) (advice : List ℕ) (unit : Unit) → AllByRecursion AsksLine unit.lines
      → Local (judge_unit s used advice unit)
  unit_local s used advice unit all =
      let pallet : PalletRow = record { sscc = unit.sscc; supplier = s.gln; advice = advice; received = arrival_number Announced } in
      let first = gives (AddPallet pallet ∷ []) in
      let second = in_order (judge_despatched unit.sscc) (placed 0 unit.lines) in
      let both = in_turn_local first second (gives_local (AddPallet pallet ∷ []) refl)
      (in_order_local (judge_despatched unit.sscc) (placed 0 unit.lines) (placed_local unit.sscc 0 unit.lines all)) in
      record {
        says = λ a b agree.
            ap₂ (λ there verdict. refuse_if (not (under_some unit.sscc s.prefixes)) codes.OtherPrefix (
            refuse_if (used unit.sscc || there) codes.SsccUsed verdict))
            (ap (λ (t : Tables). has_pallet t unit.sscc) agree.rest) (both.says a b agree);
        tame = λ a. refused_tame (not (under_some unit.sscc s.prefixes)) codes.OtherPrefix _ (
            refused_tame (used unit.sscc || has_pallet a unit.sscc) codes.SsccUsed _ (both.tame a));
      }

  units_local : (s : SupplierRow) (used : List ℕ → Bool) (advice : List ℕ) (units : List Unit)
      → AllByRecursion (λ unit. AllByRecursion AsksLine unit.lines) units
      → AllByRecursion (λ unit. Local (judge_unit s used advice unit)) units
  units_local s used advice [] all = tt
  units_local s used advice (unit ∷ units) all = (unit_local s used advice unit all.0, units_local s used advice units all.1)

  pub new_despatch_local : (s : SupplierRow) (used : List ℕ → Bool) (despatch : Despatch)
      → AllByRecursion (λ unit. AllByRecursion AsksLine unit.lines) despatch.units → Local (judge_new_despatch s used despatch)
  new_despatch_local s used despatch all =
      let advice : AdviceRow = record { supplier = s.gln; number = despatch.number } in
      let both = in_turn_local (gives (AddAdvice advice ∷ [])) (in_order (judge_unit s used despatch.number) despatch.units)
      (gives_local (AddAdvice advice ∷ []) refl)
      (in_order_local (judge_unit s used despatch.number) despatch.units (units_local s used despatch.number despatch.units all)) in
      record {
        says = λ a b agree.
            ap₂ (λ known verdict. refuse_if known codes.AdviceKnown verdict) (ap (λ
            (t : Tables). knows_advice t despatch.number) agree.rest)
            (both.says a b agree);
        tame = λ a. refused_tame (knows_advice a despatch.number) codes.AdviceKnown _ (both.tame a);
      }

  pub all_answered_local : (order : List ℕ) (said : List AnswerLine)
      → AllByRecursion (λ (line : AnswerLine). asks order line.order_line ≡ true) said
      → AllByRecursion (λ line. Local (judge_answer order line)) said
  all_answered_local order [] all = tt
  all_answered_local order (line ∷ said) all = (answer_local order line all.0, all_answered_local order said all.1)

  pub new_response_local : (response : Response) (said : List AnswerLine) → response.answer ≡ Lines said
      → AllByRecursion (λ (line : AnswerLine). asks response.order line.order_line ≡ true) said
      → Local (judge_new_response response)
  new_response_local response said is all =
      let answers = in_order_local (judge_answer response.order) said (all_answered_local response.order said all) in
      let same_answers : (a : Tables) → judge_answers response.answer response.order a ≡ in_order (judge_answer response.order) said a =
      λ a. ap (λ answer. judge_answers answer response.order a) is in
      record {
        says = λ a b agree.
            ap₂ (λ known verdict. refuse_if (not known) codes.NoOrder verdict)
            (ap (λ (t : Tables). knows_order t response.order) agree.rest)
            (same_answers a ∙ answers.says a b agree ∙ sym (same_answers b));
        tame = λ a. refused_tame (not (knows_order a response.order)) codes.NoOrder _
            (subst Tame (sym (same_answers a)) (answers.tame a));
      }

  -- a message from a supplier, beginning with its parties
  pub message_local : (retailer : List ℕ) (supplier : Option SupplierRow) (side : Side) (incoming : IncomingMessage)
      (buyer : Option (List ℕ)) (named : List ℕ) (rest : SupplierRow → Judge) → ((s : SupplierRow) → Local (rest s))
      → (a b : Tables) → AgreeOnLines asks a b
      → judge_message retailer supplier side incoming buyer named rest a ≡ judge_message retailer supplier side incoming buyer named rest b
  message_local retailer None side incoming buyer named rest local a b agree = refl
  message_local retailer (Some s) side incoming buyer named rest local a b agree =
      let r = referred_by s side incoming in
      let row = remembered r incoming.content in
      let fresh = in_turn_local (gives (Remember row ∷ [])) (rest s) (gives_local (Remember row ∷ []) refl) (local s) in
      ap₂ (λ there verdict. refuse_if (is_other_buyer retailer buyer) codes.Buyer (
      refuse_if (not (same named s.gln)) codes.Supplier (once there incoming.content verdict)))
      (ap (λ (t : Tables). remembered_of t r.side r.control r.message) agree.rest)
      (fresh.says a b agree)
