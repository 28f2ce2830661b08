-- Shows that the conditions of a response, and the response that is read, are those of the relations.
use Rattle.std.proofs.Common.{◌≡◌, ℕ, Bool, true, false, cond, not, ◌&&◌, ◌||◌, List, [], ◌∷◌, map, Option, Some, None, Ok}
use Rattle.std.proofs.Common.{Err, ◌⊎◌, inl, inr, refl, sym, ap, subst, ◌∙◌}
use Rattle.std.specs.Prelude.{◌↔◌, codes, is_some, unwrap_or, option_map, Decides}
use Rattle.std.specs.List.{list_all, list_any, AllByRecursion, AllZip}
use Rattle.std.specs.Str.{bytes_eq}
use Rattle.std.proofs.lemmas.Bool.{cases_Bool, true≢false}
use Rattle.std.proofs.lemmas.Bool.Decides.{Decides-and, Decides-or, Decides-like, Decides-at}
use Rattle.std.proofs.lemmas.Slice.Eq.{bytes_eq-Decides}
use Rattle.edi_segments.specs.declared.segment.Segment.{Segment}
use Rattle.edi_envelope.specs.Segments.{component}
use Rattle.edi_envelope.specs.declared.interchange.RawMessage.{RawMessage}
use Rattle.edi_messages.specs.Header.{function, party}
use Rattle.edi_messages.specs.Lines.{line, gtin, is_line, quantity_of}
use Rattle.edi_messages.specs.Parts.{line_groups}
use Rattle.edi_messages.specs.References.{order, has_line_or_none}
use Rattle.edi_messages.specs.Values.{is_document_number}
use Rattle.edi_messages.specs.declared.fault.MessageFault.{MessageFault}
use Rattle.edi_messages.specs.declared.fault.MessageFault.TheVariants as faults
use Rattle.edi_orders.specs.Response as spec
use Rattle.edi_orders.specs.Response.{read_groups, changed_quantity, answer_by, line_answer, is_of_order}
use Rattle.edi_orders.specs.Response.{has_no_reference_or_one_to, is_reference_to, holds, line_of, answer_of, contents_of, response_of}
use Rattle.edi_orders.specs.declared.response.Answer.{Answer}
use Rattle.edi_orders.specs.declared.response.Answer.TheVariants as answers
use Rattle.edi_orders.specs.declared.response.AnswerLine.{AnswerLine}
use Rattle.edi_orders.specs.declared.response.LineAnswer.{LineAnswer}
use Rattle.edi_orders.specs.declared.response.LineAnswer.TheVariants as line_answers
use Rattle.edi_orders.specs.declared.response.Response.{Response}
use Rattle.edi_law.specs.Header.{NamesParty}
use Rattle.edi_law.specs.Lines.{IsLine}
use Rattle.edi_law.specs.Lowest.{IsLowest, IsFaultless}
use Rattle.edi_law.specs.Parts.{HasNone, OfLines, OfOnly}
use Rattle.edi_law.specs.References.{is_rff_on, NamesOrder, NamesLineOrNone, HeaderNames}
use Rattle.edi_law.specs.Response.{Extent, EachLine, NoneOfAll, AllOfAll, Action, Accept, Refuse, Change, HasExtent}
use Rattle.edi_law.specs.Response.{OfReadLines, IsAction, HasAction, AreAnswered, HasChange, IsChangeRight}
use Rattle.edi_law.specs.Response.{HasNoReferenceOrOneTo}
use Rattle.edi_law.specs.Response.{IsRightResponse, HasAnswer, IsAnswerLine, HasAnswers, IsResponse}
use Rattle.edi_law.specs.Segments.{says}
use Rattle.edi_law.specs.Values.{IsDocumentNumber}
use Rattle.edi_law.proofs.Deciding.{Says, Refutes, Refutes-not, Refutes-and, Refutes-false, Decides-all, Decides-is_some}
use Rattle.edi_law.proofs.Deciding.{Decides-of, Decides-read, chosen, said_of, unwrap_of}
use Rattle.edi_law.proofs.HeaderLemmas.{Decides-type, Decides-begins, Decides-function, function-from_HasFunction}
use Rattle.edi_law.proofs.HeaderLemmas.{Decides-dated, Decides-party, Says-party, HasBeginning-begins_as, begins_as-from_HasBeginning}
use Rattle.edi_law.proofs.HeaderLemmas.{document_number-from_HasBeginning}
use Rattle.edi_law.proofs.LineLemmas.{Decides-line, article-from_IsLine, Says-quantity_of}
use Rattle.edi_law.proofs.LowestLemmas.{fault_is_lowest, content_is_faultless}
use Rattle.edi_law.proofs.PartLemmas.{of_lines, AreLineGroups-line_groups, line_groups-from_AreLineGroups, Decides-lines}
use Rattle.edi_law.proofs.PartLemmas.{Decides-none, Decides-of_only, only_some}
use Rattle.edi_law.proofs.ReferenceLemmas.{Says-order, Decides-line_or_none, NamesLine-group_line, group_line-from_NamesLine}
use Rattle.edi_law.proofs.SummaryLemmas.{Decides-closed, Decides-controlled, Refutes-no_line}
use Rattle.edi_law.proofs.ValueLemmas.{Decides-document_number}

-- the function
abbrev extent_of : List ℕ → Option Extent
extent_of code =
    cond (bytes_eq code (codes "4") || bytes_eq code (codes "9")) (Some EachLine)
    (cond (bytes_eq code (codes "27")) (Some NoneOfAll) (cond (bytes_eq code (codes "29")) (Some AllOfAll) None))

abbrev extent : List Segment → Option Extent
extent message = extent_of (function message)

abbrev has_lines : Option Extent → Bool
has_lines (Some EachLine) = true
has_lines _ = false

abbrev answer_to : Option Extent → List AnswerLine → Answer
answer_to (Some AllOfAll) lines = answers.AllAccepted
answer_to (Some NoneOfAll) lines = answers.AllRefused
answer_to _ lines = answers.Lines lines

record IsSameExtent (code : List ℕ) : Type 0 where
  some : is_some (spec.extent_of code) ≡ is_some (extent_of code)
  lines : spec.has_lines (spec.extent_of code) ≡ has_lines (extent_of code)
  answer : (lines : List AnswerLine) → answer_of (spec.extent_of code) lines ≡ answer_to (extent_of code) lines

same_extent : (code : List ℕ) → IsSameExtent code
same_extent code =
    elim (cases_Bool (bytes_eq code (codes "4") || bytes_eq code (codes "9"))) [
      | inl e ↦ record { some = rw e refl; lines = rw e refl; answer = λ lines. rw e refl }
      | inr n ↦ elim (cases_Bool (bytes_eq code (codes "27"))) [
        | inl e ↦ record { some = rw (n, e) refl; lines = rw (n, e) refl; answer = λ lines. rw (n, e) refl }
        | inr m ↦ elim (cases_Bool (bytes_eq code (codes "29"))) [
          | inl e ↦ record { some = rw (n, m, e) refl; lines = rw (n, m, e) refl; answer = λ lines. rw (n, m, e) refl }
          | inr e ↦ record { some = rw (n, m, e) refl; lines = rw (n, m, e) refl; answer = λ lines. rw (n, m, e) refl }
        ]
      ]
    ]

Decides-four_or_nine : (message : List Segment)
    → Decides (bytes_eq (function message) (codes "4") || bytes_eq (function message) (codes "9")) (HasExtent message EachLine)
Decides-four_or_nine message =
    Decides-or _ _ (Decides-function message (codes "4") (λ e. cc)) (Decides-function message (codes "9") (λ e. cc))

extent_there : (message : List Segment) (e : Extent) → extent message ≡ Some e → HasExtent message e
extent_there message =
    chosen EachLine NoneOfAll AllOfAll (bytes_eq (function message) (codes "4") || bytes_eq (function message) (codes "9"))
    (bytes_eq (function message) (codes "27")) (bytes_eq (function message) (codes "29")) (HasExtent message)
    (Decides-four_or_nine message).0
    (Decides-function message (codes "27") (λ e. cc)).0
    (Decides-function message (codes "29") (λ e. cc)).0

extent_back : (message : List Segment) (e : Extent) → HasExtent message e → extent message ≡ Some e
extent_back message EachLine (inl h) = ap extent_of (function-from_HasFunction message (codes "4") h)
extent_back message EachLine (inr h) = ap extent_of (function-from_HasFunction message (codes "9") h)
extent_back message NoneOfAll h = ap extent_of (function-from_HasFunction message (codes "27") h)
extent_back message AllOfAll h = ap extent_of (function-from_HasFunction message (codes "29") h)

Says-extent : (message : List Segment) → Says (extent message) (HasExtent message)
Says-extent message e = (extent_there message e, extent_back message e)

lines_extent : (o : Option Extent) → has_lines o ≡ true → o ≡ Some EachLine
lines_extent None e = absurd (true≢false (sym e))
lines_extent (Some EachLine) e = refl
lines_extent (Some NoneOfAll) e = absurd (true≢false (sym e))
lines_extent (Some AllOfAll) e = absurd (true≢false (sym e))

Decides-extent : (message : List Segment) → Decides (is_some (spec.extent message)) ((e : Extent) × HasExtent message e)
Decides-extent message =
    Decides-at (is_some (spec.extent message)) (is_some (extent message)) (same_extent (function message)).some
    (Decides-is_some (extent message) (HasExtent message) (Says-extent message))

Decides-has_lines : (message : List Segment) → Decides (spec.has_lines (spec.extent message)) (HasExtent message EachLine)
Decides-has_lines message =
    Decides-at (spec.has_lines (spec.extent message)) (has_lines (extent message)) (same_extent (function message)).lines
    ((λ e. extent_there message EachLine (lines_extent (extent message) e)), (λ h. ap has_lines (extent_back message EachLine h)))

Decides-read_lines : (t : List (List Segment) → Bool) (Are : List (List Segment) → Type 0)
    → t [] ≡ true
    → ((groups : List (List Segment)) → Decides (t groups) (Are groups))
    → (message : List Segment)
    → Decides (t (read_groups message)) (OfReadLines Are message)
Decides-read_lines t Are none each message =
    Decides-read (spec.has_lines (spec.extent message)) (line_groups message) t (HasExtent message EachLine)
    (OfLines Are message) none (Decides-has_lines message) (Decides-lines t Are each message)

-- the actions
abbrev action_of : List ℕ → Option Action
action_of code =
    cond (bytes_eq code (codes "5")) (Some Accept) (cond (bytes_eq code (codes "7")) (Some Refuse)
    (cond (bytes_eq code (codes "3") || bytes_eq code (codes "6")) (Some Change) None))

abbrev action : List Segment → Option Action
action group = action_of (component (line group) 1 0)

abbrev answer_to_line : Option Action → List Segment → Option LineAnswer
answer_to_line (Some Accept) group = Some line_answers.Accepted
answer_to_line (Some Refuse) group = Some line_answers.Refused
answer_to_line (Some Change) group = option_map line_answers.Changed (changed_quantity group)
answer_to_line None group = Some line_answers.Accepted

record IsSameAction (code : List ℕ) : Type 0 where
  some : is_some (spec.action_of code) ≡ is_some (action_of code)
  answer : (group : List Segment) → answer_by (spec.action_of code) group ≡ answer_to_line (action_of code) group

same_action : (code : List ℕ) → IsSameAction code
same_action code =
    elim (cases_Bool (bytes_eq code (codes "5"))) [
      | inl e ↦ record { some = rw e refl; answer = λ group. rw e refl }
      | inr n ↦ elim (cases_Bool (bytes_eq code (codes "7"))) [
        | inl e ↦ record { some = rw (n, e) refl; answer = λ group. rw (n, e) refl }
        | inr m ↦ elim (cases_Bool (bytes_eq code (codes "3") || bytes_eq code (codes "6"))) [
          | inl e ↦ record { some = rw (n, m, e) refl; answer = λ group. rw (n, m, e) refl }
          | inr e ↦ record { some = rw (n, m, e) refl; answer = λ group. rw (n, m, e) refl }
        ]
      ]
    ]

answer_same : (group : List Segment) → line_answer group ≡ answer_to_line (action group) group
answer_same group = (same_action (component (line group) 1 0)).answer group

action_code : (code : List ℕ) (a : Action) → action_of code ≡ Some a → IsAction code a
action_code code =
    chosen Accept Refuse Change (bytes_eq code (codes "5")) (bytes_eq code (codes "7"))
    (bytes_eq code (codes "3") || bytes_eq code (codes "6")) (IsAction code)
    (bytes_eq-Decides code (codes "5")).0
    (bytes_eq-Decides code (codes "7")).0
    (Decides-or _ _ (bytes_eq-Decides code (codes "3")) (bytes_eq-Decides code (codes "6"))).0

code_action : (code : List ℕ) (a : Action) → IsAction code a → action_of code ≡ Some a
code_action code Accept h = ap action_of h
code_action code Refuse h = ap action_of h
code_action code Change (inl h) = ap action_of h
code_action code Change (inr h) = ap action_of h

action_there : (group : List Segment) (a : Action) → action group ≡ Some a → HasAction group a
action_there [] a e = let none : None ≡ Some a = e in absurd cc
action_there (lin ∷ body) a e = record { lin = lin; body = body; place = refl; action_is = action_code (component lin 1 0) a e }

Says-action : (group : List Segment) → Says (action group) (HasAction group)
Says-action group a = (action_there group a, (λ h. ap action h.place ∙ code_action (component h.lin 1 0) a h.action_is))

Decides-action : (group : List Segment) → Decides (is_some (spec.action group)) ((a : Action) × HasAction group a)
Decides-action group =
    Decides-at (is_some (spec.action group)) (is_some (action group)) (same_action (component (line group) 1 0)).some
    (Decides-is_some (action group) (HasAction group) (Says-action group))

abbrev are_answered : List (List Segment) → Bool
are_answered groups = list_all is_line groups && list_all (λ group. is_some (spec.action group)) groups

Decides-answered : (groups : List (List Segment)) → Decides (are_answered groups) (AreAnswered groups)
Decides-answered groups =
    Decides-like (are_answered groups) (λ h. record { lines = h.0; actions = h.1 }) (λ (h : AreAnswered groups). (h.lines, h.actions))
    (Decides-and _ _ (Decides-all is_line _ Decides-line groups)
    (Decides-all (λ group. is_some (spec.action group)) (λ group. (a : Action) × HasAction group a) Decides-action groups))

-- the quantities
abbrev is_changed : Segment → Bool
is_changed = says (codes "QTY") (codes "113")

change_by : (group : List Segment) (some : Bool)
    → list_any is_changed group ≡ some
    → Says (cond some (quantity_of (codes "113") 0 group) (quantity_of (codes "21") 0 group)) (HasChange group)
change_by group true e n = (
  (λ h. inl ((Says-quantity_of (codes "113") 0 group n).0 h)),
  (λ h. elim h [
    | inl one ↦ (Says-quantity_of (codes "113") 0 group n).1 one
    | inr none ↦ absurd (true≢false (sym ((Decides-none is_changed group).1 none.0) ∙ ap not e))
  ]),
)
change_by group false e n = (
  (λ h. inr ((Decides-none is_changed group).0 (ap not e), (Says-quantity_of (codes "21") 0 group n).0 h)),
  (λ h. elim h [
    | inl one ↦ absurd (only_some is_changed group one.segment one.is_only ((Decides-none is_changed group).0 (ap not e)))
    | inr other ↦ (Says-quantity_of (codes "21") 0 group n).1 other.1
  ]),
)

Says-changed : (group : List Segment) → Says (changed_quantity group) (HasChange group)
Says-changed group = change_by group (list_any is_changed group) refl

abbrev IsChangeFound : Option Action → List Segment → Type 0
IsChangeFound o group = o ≡ Some Change → (quantity : ℕ) × HasChange group quantity

mapped : (o : Option ℕ) → is_some (option_map line_answers.Changed o) ≡ is_some o
mapped None = refl
mapped (Some n) = refl

Decides-answer_by : (o : Option Action) (group : List Segment) → Decides (is_some (answer_to_line o group)) (IsChangeFound o group)
Decides-answer_by None group = ((λ t e. absurd cc), (λ h. refl))
Decides-answer_by (Some Accept) group = ((λ t e. absurd cc), (λ h. refl))
Decides-answer_by (Some Refuse) group = ((λ t e. absurd cc), (λ h. refl))
Decides-answer_by (Some Change) group =
    let d = Decides-is_some (changed_quantity group) (HasChange group) (Says-changed group) in
    ((λ t e. d.0 (sym (mapped (changed_quantity group)) ∙ t)), (λ h. mapped (changed_quantity group) ∙ d.1 (h refl)))

Decides-change : (group : List Segment) → Decides (is_some (line_answer group)) (IsChangeRight group)
Decides-change group =
    Decides-at (is_some (line_answer group)) (is_some (answer_to_line (action group) group)) (ap is_some (answer_same group))
    (Decides-like (is_some (answer_to_line (action group) group))
    (λ h a. h ((Says-action group Change).1 a))
    (λ (h : IsChangeRight group) e. h ((Says-action group Change).0 e))
    (Decides-answer_by (action group) group))

-- the references
reference_by : (t line : Bool) (P L : Type 0) (bytes number : List ℕ) → Decides t P → Decides line L
    → Decides (is_some (cond t (Some bytes) None) && line && is_of_order (cond t (Some bytes) None) (Some number))
    ((P × L) × (bytes ≡ number))
reference_by true line P L bytes number d k =
    Decides-and line (bytes_eq bytes number) (Decides-like line (λ l. (d.0 refl, l)) (λ (h : P × L). h.1) k) (bytes_eq-Decides bytes number)
reference_by false line P L bytes number d k = ((λ e. absurd (true≢false (sym e))), (λ h. absurd (true≢false (sym (d.1 h.0.0)))))

Decides-is_reference_to : (number : List ℕ) (rff : Segment)
    → Decides (is_reference_to (Some number) (Some rff)) (NamesOrder number rff × NamesLineOrNone rff)
Decides-is_reference_to number rff =
    let bytes = component rff 0 1 in
    Decides-like (is_reference_to (Some number) (Some rff))
    (λ h. (record { number_is = h.1; right = subst IsDocumentNumber h.1 h.0.0 }, h.0.1))
    (λ (h : NamesOrder number rff × NamesLineOrNone rff). ((subst IsDocumentNumber (sym h.0.number_is) h.0.right, h.1), h.0.number_is))
    (reference_by (is_document_number bytes) (has_line_or_none rff) (IsDocumentNumber bytes) (NamesLineOrNone rff) bytes
    number (Decides-document_number bytes) (Decides-line_or_none rff))

Decides-has_no_reference_or_one_to : (number : List ℕ) (group : List Segment)
    → Decides (has_no_reference_or_one_to (Some number) group) (HasNoReferenceOrOneTo number group)
Decides-has_no_reference_or_one_to number group =
    Decides-or _ _ (Decides-none is_rff_on group)
    (Decides-of_only is_rff_on (is_reference_to (Some number)) (λ rff. NamesOrder number rff × NamesLineOrNone rff) refl
    (Decides-is_reference_to number) group)

Decides-references : (message : List Segment)
    → Decides (is_some (order message) && list_all (has_no_reference_or_one_to (order message)) (read_groups message))
    ((number : List ℕ) × HeaderNames message number × OfReadLines (AllByRecursion (HasNoReferenceOrOneTo number)) message)
Decides-references message =
    Decides-of (order message) (HeaderNames message)
    (λ o. is_some o && list_all (has_no_reference_or_one_to o) (read_groups message))
    (λ number. OfReadLines (AllByRecursion (HasNoReferenceOrOneTo number)) message)
    (Says-order message) refl
    (λ number. Decides-read_lines (list_all (has_no_reference_or_one_to (Some number)))
    (AllByRecursion (HasNoReferenceOrOneTo number))
    refl
    (Decides-all (has_no_reference_or_one_to (Some number))
    (HasNoReferenceOrOneTo number) (Decides-has_no_reference_or_one_to number)) message)

-- each condition
refutes : (m : RawMessage) (fault : MessageFault) → Refutes (holds fault m) (IsRightResponse m fault)
refutes m faults.MessageType = Refutes-not _ (Decides-type (codes "ORDRSP") m)
refutes m faults.Beginning = Refutes-not _ (Decides-begins (codes "231") m.segments)
refutes m faults.Function = Refutes-not _ (Decides-extent m.segments)
refutes m faults.Date = Refutes-not _ (Decides-dated m.segments)
refutes m faults.Parties = Refutes-not _ (Decides-and _ _ (Decides-party (codes "BY") m.segments) (Decides-party (codes "SU") m.segments))
refutes m faults.Summary = Refutes-not _ (Decides-closed m.segments)
refutes m faults.Line = Refutes-not _ (Decides-read_lines are_answered AreAnswered refl Decides-answered m.segments)
refutes m faults.Quantity =
    Refutes-not _ (Decides-read_lines (list_all (λ group. is_some (line_answer group))) (AllByRecursion IsChangeRight) refl
    (Decides-all (λ group. is_some (line_answer group)) IsChangeRight Decides-change) m.segments)
refutes m faults.Reference = Refutes-not _ (Decides-references m.segments)
refutes m faults.Control = Refutes-not _ (Decides-controlled m.segments)
refutes m faults.WithoutLines = Refutes-and _ _ (Decides-has_lines m.segments) (Refutes-no_line m.segments)
refutes m other = Refutes-false

-- what the response says
answer_there : (group : List Segment) (a : Action)
    → HasAction group a
    → IsChangeRight group
    → HasAnswer group (unwrap_or (line_answer group) line_answers.Accepted)
answer_there group a h right =
    let found : line_answer group ≡ answer_to_line (Some a) group =
    answer_same group ∙ ap (λ o. answer_to_line o group) ((Says-action group a).1 h) in
    by a h found
  where
    by : (a : Action)
        → HasAction group a
        → line_answer group ≡ answer_to_line (Some a) group
        → HasAnswer group (unwrap_or (line_answer group) line_answers.Accepted)
    by Accept h found = subst (HasAnswer group) (sym (ap (λ o. unwrap_or o line_answers.Accepted) found)) h
    by Refuse h found = subst (HasAnswer group) (sym (ap (λ o. unwrap_or o line_answers.Accepted) found)) h
    by Change h found =
        let n = right h in
        let changed_is : line_answer group ≡ Some (line_answers.Changed n.0) =
        found ∙ ap (option_map line_answers.Changed) ((Says-changed group n.0).1 n.1) in
        subst (HasAnswer group) (sym (ap (λ o. unwrap_or o line_answers.Accepted) changed_is)) (h, n.1)

answer_is : (group : List Segment) (answer : LineAnswer) → HasAnswer group answer → line_answer group ≡ Some answer
answer_is group line_answers.Accepted h = answer_same group ∙ ap (λ o. answer_to_line o group) ((Says-action group Accept).1 h)
answer_is group line_answers.Refused h = answer_same group ∙ ap (λ o. answer_to_line o group) ((Says-action group Refuse).1 h)
answer_is group (line_answers.Changed n) h =
    answer_same group
    ∙ ap (λ o. answer_to_line o group) ((Says-action group Change).1 h.0)
    ∙ ap (option_map line_answers.Changed) ((Says-changed group n).1 h.1)

line_or_none : (number : List ℕ) (group : List Segment)
    → HasNoReferenceOrOneTo number group
    → HasNone is_rff_on group ⊎ OfOnly is_rff_on group NamesLineOrNone
line_or_none number group (inl none) = inl none
line_or_none number group (inr h) = inr (record { segment = h.segment; is_only = h.is_only; is = h.is.1 })

lines_there : (number : List ℕ) (groups : List (List Segment))
    → AllByRecursion (λ group. (n : ℕ) × (gtin : List ℕ) × IsLine group n gtin) groups
    → AllByRecursion (λ group. (a : Action) × HasAction group a) groups
    → AllByRecursion IsChangeRight groups → AllByRecursion (HasNoReferenceOrOneTo number) groups
    → AllZip IsAnswerLine groups (map line_of groups)
lines_there number [] line action_ change referred = tt
lines_there number (group ∷ groups) line action_ change referred = (
  record {
    order_line_is = NamesLine-group_line group (line_or_none number group referred.0);
    number = line.0.0;
    line_is = subst (IsLine group line.0.0) (sym (article-from_IsLine group line.0.0 line.0.1 line.0.2)) line.0.2;
    answer_is = answer_there group action_.0.0 action_.0.1 change.0;
  },
  lines_there number groups line.1 action_.1 change.1 referred.1,
)

abbrev answer_line : Option ℕ → List ℕ → LineAnswer → AnswerLine
answer_line order_line article answer = record { order_line = order_line; gtin = article; answer = answer }

line_is : (group : List Segment) (one : AnswerLine) → IsAnswerLine group one → line_of group ≡ one
line_is group one h =
    let article = unwrap_or (gtin group) [] in
    let answer = unwrap_or (line_answer group) line_answers.Accepted in
    ap (λ n. answer_line n article answer) (group_line-from_NamesLine group one.order_line h.order_line_is)
    ∙ ap (λ g. answer_line one.order_line g answer) (article-from_IsLine group h.number one.gtin h.line_is)
    ∙ ap (λ o. answer_line one.order_line one.gtin (unwrap_or o line_answers.Accepted)) (answer_is group one.answer h.answer_is)

lines_are : (groups : List (List Segment)) (lines : List AnswerLine) → AllZip IsAnswerLine groups lines → map line_of groups ≡ lines
lines_are [] [] h = refl
lines_are [] (one ∷ lines) h = absurd h
lines_are (group ∷ groups) [] h = absurd h
lines_are (group ∷ groups) (one ∷ lines) h =
    ap (λ first. first ∷ map line_of groups) (line_is group one h.0)
    ∙ ap (λ others. one ∷ others) (lines_are groups lines h.1)

groups_read : (message : List Segment) → HasExtent message EachLine → read_groups message ≡ line_groups message
groups_read message h = ap (λ read. cond read (line_groups message) []) ((Decides-has_lines message).1 h)

abbrev read_lines : List Segment → List AnswerLine
read_lines message = map line_of (read_groups message)

answered : (message : List Segment) (e : Extent)
    → HasExtent message e
    → answer_of (spec.extent message) (read_lines message) ≡ answer_to (Some e) (read_lines message)
answered message e h =
    (same_extent (function message)).answer (read_lines message)
    ∙ ap (λ o. answer_to o (read_lines message)) (extent_back message e h)

each_answered : (m : RawMessage)
    → IsFaultless (IsRightResponse m)
    → HasExtent m.segments EachLine
    → OfLines (λ groups. AllZip IsAnswerLine groups (read_lines m.segments)) m.segments
each_answered m right h =
    let message = m.segments in
    let line = of_lines AreAnswered message (right faults.Line h) in
    let change = of_lines (AllByRecursion IsChangeRight) message (right faults.Quantity h) in
    let reference = right faults.Reference in
    let referred = of_lines (AllByRecursion (HasNoReferenceOrOneTo reference.0)) message (reference.2 h) in
    record {
      groups = line_groups message;
      are_groups = AreLineGroups-line_groups message;
      are =
          subst (λ groups. AllZip IsAnswerLine (line_groups message) (map line_of groups)) (sym (groups_read message h))
          (lines_there reference.0 (line_groups message) line.lines line.actions change referred);
    }

answers_there : (m : RawMessage) (e : Extent)
    → IsFaultless (IsRightResponse m)
    → HasExtent m.segments e
    → HasAnswers m.segments (answer_to (Some e) (read_lines m.segments))
answers_there m EachLine right h = (h, each_answered m right h)
answers_there m NoneOfAll right h = h
answers_there m AllOfAll right h = h

answers_are : (message : List Segment) (answer : Answer)
    → HasAnswers message answer
    → answer_of (spec.extent message) (read_lines message) ≡ answer
answers_are message answers.AllAccepted h = answered message AllOfAll h
answers_are message answers.AllRefused h = answered message NoneOfAll h
answers_are message (answers.Lines lines) h =
    let given = h.1 in
    let groups = groups_read message h.0 ∙ line_groups-from_AreLineGroups given.groups message given.are_groups in
    answered message EachLine h.0 ∙ ap answers.Lines (ap (map line_of) groups ∙ lines_are given.groups lines given.are)

contents_there : (m : RawMessage) → IsFaultless (IsRightResponse m) → IsResponse m.segments (contents_of m.segments)
contents_there m right =
    let message = m.segments in
    let parties = right faults.Parties in
    let beginning = right faults.Beginning in
    let extent_ = right faults.Function in
    let reference = right faults.Reference in
    record {
      number_is = HasBeginning-begins_as (codes "231") message (begins_as-from_HasBeginning (codes "231") message beginning.0 beginning.1);
      buyer_is =
          said_of (party (codes "BY") message) (NamesParty (codes "BY") message) [] (Says-party (codes "BY") message)
          ((Decides-party (codes "BY") message).1 parties.0);
      supplier_is =
          said_of (party (codes "SU") message) (NamesParty (codes "SU") message) [] (Says-party (codes "SU") message)
          ((Decides-party (codes "SU") message).1 parties.1);
      order_is =
          said_of (order message) (HeaderNames message) [] (Says-order message)
          (ap is_some ((Says-order message reference.0).1 reference.1));
      answer_is = subst (HasAnswers message) (sym (answered message extent_.0 extent_.1)) (answers_there m extent_.0 right extent_.1);
    }

abbrev response_from : List ℕ → List ℕ → List ℕ → List ℕ → Answer → Response
response_from number buyer supplier order_ answer =
    record { number = number; buyer = buyer; supplier = supplier; order = order_; answer = answer }

contents_are : (message : List Segment) (response : Response) → IsResponse message response → contents_of message ≡ response
contents_are message response h =
    let by = unwrap_or (party (codes "BY") message) [] in
    let su = unwrap_or (party (codes "SU") message) [] in
    let on = unwrap_or (order message) [] in
    let answer = answer_of (spec.extent message) (read_lines message) in
    let number = document_number-from_HasBeginning (codes "231") message response.number h.number_is in
    let buyer = unwrap_of (party (codes "BY") message) (NamesParty (codes "BY") message) [] response.buyer
    (Says-party (codes "BY") message) h.buyer_is in
    let supplier = unwrap_of (party (codes "SU") message) (NamesParty (codes "SU") message) [] response.supplier
    (Says-party (codes "SU") message) h.supplier_is in
    let order_ = unwrap_of (order message) (HeaderNames message) [] response.order (Says-order message) h.order_is in
    ap (λ n. response_from n by su on answer) number
    ∙ ap (λ b. response_from response.number b su on answer) (sym buyer)
    ∙ ap (λ s. response_from response.number response.buyer s on answer) (sym supplier)
    ∙ ap (λ o. response_from response.number response.buyer response.supplier o answer) (sym order_)
    ∙ ap (λ a. response_from response.number response.buyer response.supplier response.order a)
    (answers_are message response.answer h.answer_is)

pub fault_law : (m : RawMessage) (fault : MessageFault) → (response_of m ≡ Err fault) ↔ IsLowest (IsRightResponse m) fault
unfolding response_of
fault_law m fault = fault_is_lowest (λ f. holds f m) (IsRightResponse m) (λ f lower. refutes m f) refl
    (contents_of m.segments) fault

pub response_law : (m : RawMessage) (response : Response)
    → (response_of m ≡ Ok response) ↔ (IsFaultless (IsRightResponse m) × IsResponse m.segments response)
unfolding response_of
response_law m response =
    let law = content_is_faultless (λ f. holds f m) (IsRightResponse m) (λ f lower. refutes m f) refl
    (contents_of m.segments) response in (
      (λ h. let both = law.0 h in (both.0, subst (IsResponse m.segments) both.1 (contents_there m both.0))),
      (λ h. law.1 (h.0, contents_are m.segments response h.1)),
    )
