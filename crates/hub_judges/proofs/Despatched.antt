-- Shows that despatch advices are decided from facts as from the state that the facts agree with.
use Rattle.std.proofs.Common.{◌≡◌, ℕ, ◌+◌, ◌-◌, nat_lt, Bool, true, false, not, ◌||◌, ◌⊎◌, inl, inr, List, [], ◌∷◌, ◌++◌, map, Option}
use Rattle.std.proofs.Common.{Some, None, option_map, refl, sym, subst, ◌∙◌, ap, ap₂}
use Rattle.std.specs.List.{AllByRecursion, list_any}
use Rattle.std.proofs.lemmas.List.{append_assoc}
use Rattle.std.proofs.Math.Bool.{or-true}
use Rattle.edi_base.proofs.Twice.{bytes_eq-sym}
use Rattle.gs1_ids.specs.Sscc.{under_some}
use Rattle.edi_goods.specs.declared.despatch.Despatch.{Despatch}
use Rattle.edi_goods.specs.declared.despatch.DespatchLine.{DespatchLine}
use Rattle.edi_goods.specs.declared.despatch.Unit.{Unit}
use Rattle.hub_parties.specs.declared.row.SupplierRow.{SupplierRow}
use Rattle.hub_tables.specs.Change.{apply, apply_all}
use Rattle.hub_parties.specs.KeyOrder.{put}
use Rattle.hub_tables.specs.Rows.{same, pallet_cmp}
use Rattle.hub_tables.specs.State.{knows_order, knows_advice}
use Rattle.hub_tables.specs.Tables.{Tables, has_pallet}
use Rattle.hub_tables.specs.declared.change.Change.{Change}
use Rattle.hub_tables.specs.declared.change.Change.TheVariants.{SetLine, AddAdvice, AddPallet, AddContent}
use Rattle.hub_tables.specs.declared.rows.ContentRow.{ContentRow}
use Rattle.hub_tables.specs.declared.rows.LineRow.{LineRow}
use Rattle.hub_tables.specs.declared.rows.PalletRow.{PalletRow}
use Rattle.hub_tables.proofs.Founding.{applied_in_turn}
use Rattle.hub_tables.proofs.KeyOrder.{any_put}
use Rattle.hub_tables.proofs.Lists.{all_weaker, all_itself, same_if}
use Rattle.hub_order_lines.specs.Book.{Orders, facts_among, has_order, lines_in, set_row, with_row, answered_row}
use Rattle.hub_order_lines.specs.declared.facts.LineFacts.{LineFacts}
use Rattle.hub_order_lines.proofs.Setting.{has_made}
use Rattle.hub_rules.specs.DespatchRules.{placed, judge_despatched, judge_unit, judge_new_despatch}
use Rattle.hub_rules.specs.Judging.{Judge, refuse_if, given, joined, goes_on, in_order}
use Rattle.hub_rules.specs.declared.code.Code.TheVariants.{NoOrder, NoLine, OtherArticle, MoreThanOpen, OtherPrefix, SsccUsed, AdviceKnown}
use Rattle.hub_rules.specs.declared.verdict.Verdict.{Verdict}
use Rattle.hub_rules.specs.declared.verdict.Verdict.TheVariants.{Accept, Refuse}
use Rattle.hub_judges.specs.FromFacts.{after_despatch, new_content, despatch_checks, lines_from, new_pallet, unit_checks}
use Rattle.hub_judges.specs.FromFacts.{no_sscc, and_sscc, units_from, despatch_from}
use Rattle.hub_judges.specs.Known.{TellsLines, TellsUnits, names_order}
use Rattle.hub_judges.specs.declared.known.Known.{Known}
use Rattle.hub_judges.proofs.Facts.{line_told, lines_told_after}

-- Verdicts one after another.
pub joined_grouped : (a b : List Change) (v : Verdict) → joined (a ++ b) v ≡ joined a (joined b v)
joined_grouped a b (Refuse code) = refl
joined_grouped a b (Accept rest) = ap Accept (append_assoc a b rest)

joined_none : (v : Verdict) → joined [] v ≡ v
joined_none (Refuse code) = refl
joined_none (Accept rest) = refl

-- what follows a list of changes and a verdict can also follow the verdict alone, on what the changes left
grouped : (a : List Change) (v : Verdict) (third : Judge) (state : Tables)
    → goes_on (joined a v) third state ≡ joined a (goes_on v third (apply_all a state))
grouped a (Refuse code) third state = refl
grouped a (Accept b) third state =
    ap (λ st. joined (a ++ b) (third st)) (applied_in_turn a b state)
    ∙ joined_grouped a b (third (apply_all b (apply_all a state)))

-- facts that agree with a state on the lines of the named orders; the state has these pallets
pub record TellsNamed (named : List ℕ → Bool) (pallets : List PalletRow) (state : Tables) (lines : Orders) : Type 0 where
  pub pallets_are : state.pallets ≡ pallets
  pub order : (number : List ℕ) → named number ≡ true → knows_order state number ≡ has_order lines number
  pub lines_are : (number : List ℕ) → named number ≡ true → TellsLines state lines number

module _ (named : List ℕ → Bool) where
  after_line : (pallets : List PalletRow) (state : Tables) (lines : Orders) (row : LineRow) (content : ContentRow)
      → TellsNamed named pallets state lines
      → TellsNamed named pallets (apply (AddContent content) (apply (SetLine row) state)) (with_row row lines)
  after_line pallets state lines row content t = record {
    pallets_are = t.pallets_are;
    order = λ number is. t.order number is ∙ sym (has_made (set_row row) lines number);
    lines_are = λ number is. lines_told_after state lines row number (t.lines_are number is);
  }

  -- the decision on one line, then what follows
  module _ (sscc : List ℕ) (n : ℕ) (said : DespatchLine) (rest : Judge) (third : Judge) (next : Orders → Verdict)
      (state : Tables) (lines : Orders) (pallets : List PalletRow) (t : TellsNamed named pallets state lines)
      (ih : (st : Tables) (ls : Orders) → TellsNamed named pallets st ls → goes_on (rest st) third st ≡ next ls) where
    abbrev changes_of : LineFacts → List Change
    changes_of line = SetLine (after_despatch said line) ∷ new_content sscc (n + 1) said line ∷ []

    step : (line : LineFacts)
        → goes_on (joined (changes_of line) (rest (apply_all (changes_of line) state))) third state
        ≡ joined (changes_of line) (next (with_row (after_despatch said line) lines))
    step line =
        grouped (changes_of line) (rest (apply_all (changes_of line) state)) third state
        ∙ ap (joined (changes_of line)) (ih (apply_all (changes_of line) state) (with_row (after_despatch said line) lines)
        (after_line pallets state lines (after_despatch said line) (record {
          sscc = sscc;
          place = n + 1;
          number = line.row.number;
          line = line.row.line;
          quantity = said.quantity;
        }) t))

    through : (line : LineFacts) (a b : Bool)
        → goes_on (goes_on (refuse_if a OtherArticle (refuse_if b MoreThanOpen (Accept (changes_of line)))) rest state) third state
        ≡ refuse_if a OtherArticle (refuse_if b MoreThanOpen (joined (changes_of line) (next (with_row (after_despatch said line) lines))))
    through line true b = refl
    through line false true = refl
    through line false false = step line

    found : (line : Option LineFacts)
        → goes_on (goes_on (given (option_map (λ line. line.row) line) NoLine (λ row.
        refuse_if (not (same row.gtin said.gtin)) OtherArticle (refuse_if (nat_lt row.open_qty said.quantity) MoreThanOpen (
        Accept (SetLine (record row { open_qty = row.open_qty - said.quantity })
        ∷ AddContent
        (record { sscc = sscc; place = n + 1; number = row.number; line = row.line; quantity = said.quantity })
        ∷ []))))) rest state) third state
        ≡ given line NoLine
        (λ line. despatch_checks said line (joined (changes_of line) (next (with_row (after_despatch said line) lines))))
    found None = refl
    found (Some line) = through line (not (same line.row.gtin said.gtin)) (nat_lt line.row.open_qty said.quantity)

    known : (v : Bool) (w x : Verdict)
        → goes_on (goes_on w rest state) third state ≡ x
        → goes_on (goes_on (refuse_if v NoOrder w) rest state) third state ≡ refuse_if v NoOrder x
    known true w x h = refl
    known false w x h = h

    one_line : named said.order ≡ true → goes_on (goes_on (judge_despatched sscc (n + 1, said) state) rest state) third state
        ≡ refuse_if (not (has_order lines said.order)) NoOrder
        (given (facts_among (lines_in lines said.order) said.order_line said.gtin) NoLine (λ line.
        despatch_checks said line (joined (changes_of line) (next (with_row (after_despatch said line) lines)))))
    one_line is =
        ap₂ (λ v line. goes_on (goes_on (refuse_if (not v) NoOrder (given line NoLine (λ row.
        refuse_if (not (same row.gtin said.gtin)) OtherArticle (refuse_if (nat_lt row.open_qty said.quantity) MoreThanOpen (
        Accept (SetLine (record row { open_qty = row.open_qty - said.quantity })
        ∷ AddContent
        (record { sscc = sscc; place = n + 1; number = row.number; line = row.line; quantity = said.quantity })
        ∷ [])))))) rest state) third state)
        (t.order said.order is) (line_told state lines said.order said.order_line said.gtin (t.lines_are said.order is))
        ∙ known (not (has_order lines said.order)) _ _ (found (facts_among (lines_in lines said.order) said.order_line said.gtin))

  -- the lines of a unit
  lines_alike : (sscc : List ℕ) (pallets : List PalletRow) (third : Judge) (next : Orders → Verdict)
      → ((st : Tables) (ls : Orders) → TellsNamed named pallets st ls → third st ≡ next ls)
      → (n : ℕ) (said : List DespatchLine) (state : Tables) (lines : Orders)
      → AllByRecursion (λ line. named line.order ≡ true) said
      → TellsNamed named pallets state lines
      → goes_on (in_order (judge_despatched sscc) (placed n said) state) third state ≡ lines_from sscc n said lines next
  lines_alike sscc pallets third next agree n [] state lines all t = joined_none (third state) ∙ agree state lines t
  lines_alike sscc pallets third next agree n (x ∷ said) state lines all t =
      one_line sscc n x (in_order (judge_despatched sscc) (placed (n + 1) said)) third
      (λ ls. lines_from sscc (n + 1) said ls next) state lines pallets t
      (λ st ls told. lines_alike sscc pallets third next agree (n + 1) said st ls all.1 told) all.0

  -- adding a pallet does not change the facts
  after_pallet : (pallets : List PalletRow) (state : Tables) (lines : Orders) (pallet : PalletRow)
      → TellsNamed named pallets state lines
      → TellsNamed named (apply (AddPallet pallet) state).pallets (apply (AddPallet pallet) state) lines
  after_pallet pallets state lines pallet t =
      record { pallets_are = refl; order = λ number is. t.order number is; lines_are = λ number is. t.lines_are number is }

  -- an SSCC is used if it was given as used, or if a pallet or an earlier unit has it
  abbrev Used : (List ℕ → Bool) → (List ℕ → Bool) → List PalletRow → Type 0
  Used used came pallets =
      (sscc : List ℕ) → (used sscc || list_any (λ pallet. same pallet.sscc sscc) pallets) ≡ (used sscc || came sscc)

  used_after : (used came : List ℕ → Bool) (pallet : PalletRow) (pallets : List PalletRow)
      → Used used came pallets
      → Used used (and_sscc came pallet.sscc) (put pallet_cmp pallet pallets)
  used_after used came pallet pallets are sscc =
      ap (λ v. used sscc || v) (any_put pallet_cmp (λ other. same other.sscc sscc) pallets pallet)
      ∙ turned (used sscc) (list_any (λ other. same other.sscc sscc) pallets) (same pallet.sscc sscc)
      ∙ ap₂ (λ one v. one || v) (bytes_eq-sym pallet.sscc sscc) (are sscc)
      ∙ swapped (same sscc pallet.sscc) (used sscc) (came sscc)
    where
      turned : (u a one : Bool) → (u || (a || (one || false))) ≡ (one || (u || a))
      turned true a true = refl
      turned true a false = refl
      turned false true true = refl
      turned false true false = refl
      turned false false true = refl
      turned false false false = refl

      swapped : (one u b : Bool) → (one || (u || b)) ≡ (u || (one || b))
      swapped true true b = refl
      swapped true false b = refl
      swapped false u b = refl

  module _ (s : SupplierRow) (used : List ℕ → Bool) (advice : List ℕ) where
    abbrev pallet_of : Unit → PalletRow
    pallet_of unit = record { sscc = unit.sscc; supplier = s.gln; advice = advice; received = 0 }

    checked : (a b : Bool) (unit : Unit) (third : Judge) (state : Tables) (w x : Verdict) → goes_on w third state ≡ x
        → goes_on (refuse_if a OtherPrefix (refuse_if b SsccUsed w)) third state ≡ refuse_if a OtherPrefix (refuse_if b SsccUsed x)
    checked true b unit third state w x h = refl
    checked false true unit third state w x h = refl
    checked false false unit third state w x h = h

    units_alike : (came : List ℕ → Bool) (units : List Unit) (state : Tables) (lines : Orders) (pallets : List PalletRow)
        → AllByRecursion (λ unit. AllByRecursion (λ line. named line.order ≡ true) unit.lines) units
        → Used used came pallets
        → TellsNamed named pallets state lines
        → in_order (judge_unit s used advice) units state
        ≡ units_from s advice came units (map (λ unit. used unit.sscc) units) lines
    units_alike came [] state lines pallets all flags t = refl
    units_alike came (unit ∷ units) state lines pallets all flags t =
        let also : List ℕ → Bool = and_sscc came unit.sscc in
        let first : List Change = AddPallet (pallet_of unit) ∷ [] in
        let third : Judge = in_order (judge_unit s used advice) units in
        let after : Tables = apply (AddPallet (pallet_of unit)) state in
        let next : Orders → Verdict =
        λ left. units_from s advice also units (map (λ unit. used unit.sscc) units) left in
        let flag : (used unit.sscc || has_pallet state unit.sscc) ≡ (used unit.sscc || came unit.sscc) =
        ap (λ ps. used unit.sscc || list_any (λ pallet. same pallet.sscc unit.sscc) ps) t.pallets_are ∙ flags unit.sscc in
        let flags_after : Used used also after.pallets =
        subst (λ ps. Used used also (put pallet_cmp (pallet_of unit) ps)) (sym t.pallets_are)
        (used_after used came (pallet_of unit) pallets flags) in
        let whole : goes_on (joined first (in_order (judge_despatched unit.sscc) (placed 0 unit.lines) after)) third state
        ≡ joined first (lines_from unit.sscc 0 unit.lines lines next) =
        grouped first (in_order (judge_despatched unit.sscc) (placed 0 unit.lines) after) third state
        ∙ ap (joined first) (lines_alike unit.sscc after.pallets third next
        (λ st ls told. units_alike also units st ls after.pallets all.1 flags_after told) 0 unit.lines after lines
        all.0 (after_pallet pallets state lines (pallet_of unit) t)) in
        ap (λ v. goes_on (refuse_if (not (under_some unit.sscc s.prefixes)) OtherPrefix
        (refuse_if v SsccUsed (joined first (in_order (judge_despatched unit.sscc) (placed 0 unit.lines) after)))) third
        state) flag
        ∙ checked (not (under_some unit.sscc s.prefixes)) (used unit.sscc || came unit.sscc) unit third state _ _ whole

-- each order of an advice's lines is named by the advice
names_all : (units : List Unit) → AllByRecursion (λ unit. AllByRecursion (λ line. names_order units line.order ≡ true) unit.lines) units
names_all [] = tt
names_all (unit ∷ units) = (
  all_weaker (λ line. list_any (λ other. same other.order line.order) unit.lines ≡ true)
      (λ line. names_order (unit ∷ units) line.order ≡ true) (λ line h. ap (λ v. v || names_order units line.order) h)
      unit.lines
      (all_itself (λ line other. same other.order line.order) (λ line. same_if line.order line.order refl) unit.lines),
  all_weaker (λ other. AllByRecursion (λ line. names_order units line.order ≡ true) other.lines)
      (λ other. AllByRecursion (λ line. names_order (unit ∷ units) line.order ≡ true) other.lines)
      (λ other all.
      all_weaker (λ line. names_order units line.order ≡ true) (λ line. names_order (unit ∷ units) line.order ≡ true)
      (λ line h. ap (λ v. list_any (λ one. same one.order line.order) unit.lines || v) h
      ∙ or-true (list_any (λ one. same one.order line.order) unit.lines)) other.lines all) units (names_all units),
)

-- at first, only the given SSCCs are used
used_first : (used : List ℕ → Bool) (state : Tables)
    → ((sscc : List ℕ) → has_pallet state sscc ≡ true → used sscc ≡ true)
    → (sscc : List ℕ)
    → (used sscc || has_pallet state sscc) ≡ (used sscc || no_sscc sscc)
used_first used state there sscc = by_case (used sscc) (has_pallet state sscc) (there sscc)
  where
    by_case : (a b : Bool) → (b ≡ true → a ≡ true) → (a || b) ≡ (a || false)
    by_case true b h = refl
    by_case false true h = sym (h refl)
    by_case false false h = refl

pub despatch_alike : (s : SupplierRow) (used : List ℕ → Bool) (known : Known) (despatch : Despatch) (state : Tables)
    → knows_advice state despatch.number ≡ known.number_known
    → ((sscc : List ℕ) → has_pallet state sscc ≡ true → used sscc ≡ true)
    → TellsUnits known used despatch.units state
    → judge_new_despatch s used despatch state ≡ despatch_from s despatch known
despatch_alike s used known despatch state number there told =
    let advice : List Change = AddAdvice (record { supplier = s.gln; number = despatch.number }) ∷ [] in
    ap₂ (λ v rest. refuse_if v AdviceKnown (joined advice rest)) number
    (units_alike (names_order despatch.units) s used despatch.number no_sscc despatch.units
    (apply_all advice state) known.orders state.pallets (names_all despatch.units) (used_first used state there)
    (record { pallets_are = refl; order = told.orders; lines_are = told.lines })
    ∙ ap (λ us. units_from s despatch.number no_sscc despatch.units us known.orders) told.used_told)

-- the code's decision on one line, then on the rest with what it left
pub despatched_next :
    (sscc : List ℕ) (n : ℕ) (said : DespatchLine) (rest : List DespatchLine) (before : List Change)
    (lines after : Orders) (line : LineFacts) (row : LineRow) (next : Orders → Verdict)
    → not (has_order lines said.order) ≡ false
    → facts_among (lines_in lines said.order) said.order_line said.gtin ≡ Some line
    → ((verdict : Verdict) → despatch_checks said line verdict ≡ verdict)
    → row ≡ line.row
    → after ≡ with_row (answered_row line.row (row.open_qty - said.quantity) row.refused row.cancelled row.answer) lines
    → joined before (lines_from sscc n (said ∷ rest) lines next)
    ≡ joined (before ++ SetLine (record row { open_qty = row.open_qty - said.quantity }) ∷ AddContent
    (record { sscc = sscc; place = n + 1; number = row.number; line = row.line; quantity = said.quantity }) ∷ [])
    (lines_from sscc (n + 1) rest after next)
despatched_next sscc n said rest before lines after line row next known found pass is set =
    let both : List Change = SetLine (after_despatch said line) ∷ new_content sscc (n + 1) said line ∷ [] in
    let left : with_row (after_despatch said line) lines ≡ after =
    sym (set
    ∙ ap (λ (r : LineRow).
    with_row (answered_row line.row (r.open_qty - said.quantity) r.refused r.cancelled r.answer) lines) is) in
    let tail : Verdict = lines_from sscc (n + 1) rest after next in
    ap₂ (λ v one. joined before (refuse_if v NoOrder (given one NoLine (λ line.
    despatch_checks said line (joined (SetLine (after_despatch said line) ∷ new_content sscc (n + 1) said line ∷ [])
    (lines_from sscc (n + 1) rest (with_row (after_despatch said line) lines) next)))))) known found
    ∙ ap (joined before) (pass (joined both
    (lines_from sscc (n + 1) rest (with_row (after_despatch said line) lines) next)))
    ∙ ap (λ ls. joined before (joined both (lines_from sscc (n + 1) rest ls next))) left
    ∙ sym (joined_grouped before both tail)
    ∙ ap (λ (r : LineRow).
    joined (before ++ SetLine (record r { open_qty = r.open_qty - said.quantity }) ∷ AddContent
    (record { sscc = sscc; place = n + 1; number = r.number; line = r.line; quantity = said.quantity }) ∷ [])
    tail) (sym is)

-- the code's decision on the next unit, then what follows it
pub unit_next : (s : SupplierRow) (advice : List ℕ) (came later : List ℕ → Bool)
    (ahead units : List Unit) (flags rest : List Bool) (lines : Orders) (unit : Unit) (flag taken : Bool)
    (number : List ℕ) (before : List Change)
    → ahead ≡ unit ∷ units
    → flags ≡ flag ∷ rest
    → taken ≡ (flag || came unit.sscc)
    → ((sscc : List ℕ) → later sscc ≡ and_sscc came unit.sscc sscc)
    → number ≡ advice
    → joined before (units_from s advice came ahead flags lines)
    ≡ joined before (unit_checks s unit.sscc taken (joined (new_pallet s number unit.sscc ∷ [])
    (lines_from unit.sscc 0 unit.lines lines (λ left. units_from s advice later units rest left))))
unit_next s advice came later ahead units flags rest lines unit flag taken number before is is_flag is_taken more named =
    let of : (List ℕ → Bool) → Verdict =
    λ among. lines_from unit.sscc 0 unit.lines lines (λ left. units_from s advice among units rest left) in
    let same_came : and_sscc came unit.sscc ≡ later = λ i sscc. sym (more sscc) i in
    ap₂ (λ us flags. joined before (units_from s advice came us flags lines)) is is_flag
    ∙ ap₂ (λ v among. joined before (unit_checks s unit.sscc v (joined (new_pallet s advice unit.sscc ∷ []) (of among))))
    (sym is_taken) same_came
    ∙ ap (λ number. joined before (unit_checks s unit.sscc taken (joined (new_pallet s number unit.sscc ∷ []) (of later))))
    (sym named)

-- after the last unit
pub units_end : (s : SupplierRow) (advice : List ℕ) (came : List ℕ → Bool) (units : List Unit)
    (flags : List Bool) (lines : Orders)
    → (units ≡ []) ⊎ (flags ≡ [])
    → units_from s advice came units flags lines ≡ Accept []
units_end s advice came [] flags lines ended = refl
units_end s advice came (unit ∷ units) [] lines ended = refl
units_end s advice came (unit ∷ units) (flag ∷ flags) lines ended = elim ended [ inl e ↦ cc | inr e ↦ cc ]
