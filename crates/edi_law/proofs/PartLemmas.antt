-- Shows that the parts of a message are exactly those of the relations.
use Rattle.std.proofs.Common.{◌≡◌, Bool, true, false, cond, not, List, [], ◌∷◌, ◌++◌, filter, Option, Some, None, inl, inr}
use Rattle.std.proofs.Common.{refl, sym, ap, subst, ◌∙◌, append-nil, append_assoc}
use Rattle.std.specs.Prelude.{is_some, ◌||◌, option_and_then, Decides}
use Rattle.std.specs.List.{list_any, AllByRecursion, take_while}
use Rattle.std.proofs.lemmas.Bool.{cases_Bool, true≢false, not-true, not_from_false, true_from_ne_false}
use Rattle.std.proofs.lemmas.List.Sums.{take_while-cons}
use Rattle.std.proofs.Math.Bool.{or-false}
use Rattle.edi_segments.specs.declared.segment.Segment.{Segment}
use Rattle.edi_messages.specs.Parts.{only, header, line_groups, up_to_end}
use Rattle.edi_law.specs.Parts.{HasNone, BeginsWith, IsFront, IsOnly, IsHeader, AreParts, AreLineGroups, OfHeader, OfLines}
use Rattle.edi_law.specs.Parts.{OfOnly, OneOrNone}
use Rattle.edi_law.specs.Segments.{is_line_item, parts_lines}
use Rattle.edi_law.proofs.Deciding.{Refutes, Says, same_some, Says-then, Decides-of}

-- what comes before the first element of a kind, and the rest
module _ {X : Type 0} where
  abbrev pub front : (X → Bool) → List X → List X
  front kind [] = []
  front kind (x ∷ xs) = cond (kind x) [] (x ∷ front kind xs)

  abbrev pub behind : (X → Bool) → List X → List X
  behind kind [] = []
  behind kind (x ∷ xs) = cond (kind x) (x ∷ xs) (behind kind xs)

  abbrev pub StartsWith : (X → Bool) → List X → Type 0
  StartsWith kind [] = Unit {0}
  StartsWith kind (x ∷ xs) = kind x ≡ true

  taken_one : (pass here : Bool) (x : X) (xs : List X) → pass ≡ not here → cond pass (x ∷ xs) [] ≡ cond here [] (x ∷ xs)
  taken_one pass true x xs e = rw e refl
  taken_one pass false x xs e = rw e refl

  pub taken : (p kind : X → Bool) → ((x : X) → p x ≡ not (kind x)) → (xs : List X) → take_while p xs ≡ front kind xs
  taken p kind same [] = refl
  taken p kind same (x ∷ xs) =
      take_while-cons p x xs
      ∙ ap (λ ys. cond (p x) (x ∷ ys) []) (taken p kind same xs)
      ∙ taken_one (p x) (kind x) x (front kind xs) (same x)

  pub front_behind : (kind : X → Bool) (xs : List X) → xs ≡ front kind xs ++ behind kind xs
  front_behind kind [] = refl
  front_behind kind (x ∷ xs) =
      elim (cases_Bool (kind x)) [
        | inl is ↦ rw is refl
        | inr not_ ↦ rw not_ (ap (λ ys. x ∷ ys) (front_behind kind xs))
      ]

  pub front_within : (kind : X → Bool) (xs : List X) → AllByRecursion (λ x. kind x ≡ false) (front kind xs)
  front_within kind [] = tt
  front_within kind (x ∷ xs) =
      elim (cases_Bool (kind x)) [
        | inl is ↦ rw is tt
        | inr not_ ↦ rw not_ (not_, front_within kind xs)
      ]

  pub behind_stops : (kind : X → Bool) (xs : List X) → StartsWith kind (behind kind xs)
  behind_stops kind [] = tt
  behind_stops kind (x ∷ xs) =
      elim (cases_Bool (kind x)) [
        | inl is ↦ rw is is
        | inr not_ ↦ rw not_ (behind_stops kind xs)
      ]

  pub front_is : (kind : X → Bool) (part rest : List X)
      → AllByRecursion (λ x. kind x ≡ false) part
      → StartsWith kind rest
      → front kind (part ++ rest) ≡ part
  front_is kind [] [] h ends = refl
  front_is kind [] (x ∷ rest) h ends = rw ends refl
  front_is kind (x ∷ part) rest h ends = rw h.0 (ap (λ ys. x ∷ ys) (front_is kind part rest h.1 ends))

BeginsWith-stops : (kind : Segment → Bool) (rest : List Segment) → StartsWith kind rest → BeginsWith kind rest
BeginsWith-stops kind [] h = tt
BeginsWith-stops kind (segment ∷ rest) h = h

stops-BeginsWith : (kind : Segment → Bool) (rest : List Segment) → BeginsWith kind rest → StartsWith kind rest
stops-BeginsWith kind [] h = tt
stops-BeginsWith kind (segment ∷ rest) h = h

pub IsFront-front : (kind : Segment → Bool) (segments : List Segment) → IsFront kind (front kind segments) segments
IsFront-front kind segments = record {
  rest = behind kind segments;
  place = front_behind kind segments;
  within = front_within kind segments;
  ends = BeginsWith-stops kind (behind kind segments) (behind_stops kind segments);
}

pub front-from_IsFront : (kind : Segment → Bool) (part segments : List Segment) → IsFront kind part segments → front kind segments ≡ part
front-from_IsFront kind part segments h = ap (front kind) h.place ∙ front_is kind part h.rest h.within (stops-BeginsWith kind h.rest h.ends)

-- the header
up_to_end-front : (segments : List Segment) → up_to_end segments ≡ front parts_lines segments
up_to_end-front segments = taken _ parts_lines (λ segment. refl) segments

pub IsHeader-header : (message : List Segment) → IsHeader (header message) message
IsHeader-header [] = refl
IsHeader-header (unh ∷ segments) =
    subst (λ part. IsFront parts_lines part segments) (sym (up_to_end-front segments)) (IsFront-front parts_lines segments)

pub header-from_IsHeader : (part message : List Segment) → IsHeader part message → header message ≡ part
header-from_IsHeader part [] h = sym h
header-from_IsHeader part (unh ∷ segments) h = up_to_end-front segments ∙ front-from_IsFront parts_lines part segments h

pub Decides-header : (t : List Segment → Bool) (Is : List Segment → Type 0)
    → ((part : List Segment) → Decides (t part) (Is part))
    → (message : List Segment)
    → Decides (t (header message)) (OfHeader Is message)
Decides-header t Is each message = (
  (λ e. record { header = header message; is_header = IsHeader-header message; is = (each (header message)).0 e }),
  (λ h. ap t (header-from_IsHeader h.header message h.is_header) ∙ (each h.header).1 h.is),
)

pub Says-header : {X : Type 0} (f : List Segment → Option X) (Is : X → List Segment → Type 0)
    → ((part : List Segment) → Says (f part) (λ x. Is x part))
    → (message : List Segment)
    → Says (f (header message)) (λ x. OfHeader (Is x) message)
Says-header f Is each message x = (
  (λ e. record { header = header message; is_header = IsHeader-header message; is = (each (header message) x).0 e }),
  (λ h. ap f (header-from_IsHeader h.header message h.is_header) ∙ (each h.header x).1 h.is),
)

-- the only one of a kind
module _ (kind : Segment → Bool) where
  pub none_passes : (part : List Segment) → HasNone kind part → filter kind part ≡ []
  none_passes [] h = refl
  none_passes (x ∷ part) h = rw h.0 (none_passes part h.1)

  pub passes_none : (part : List Segment) → filter kind part ≡ [] → HasNone kind part
  passes_none [] h = tt
  passes_none (x ∷ part) h =
      elim (cases_Bool (kind x)) [
        | inl is ↦ let e : x ∷ filter kind part ≡ [] = sym (rw is refl) ∙ h in absurd cc
        | inr not_ ↦ (not_, passes_none part (sym (rw not_ refl) ∙ h))
      ]

  passes_behind : (before part : List Segment) → HasNone kind before → filter kind (before ++ part) ≡ filter kind part
  passes_behind [] part h = refl
  passes_behind (x ∷ before) part h = rw h.0 (passes_behind before part h.1)

  only_cons : (x s : Segment) (xs : List Segment) → only (x ∷ xs) ≡ Some s → (x ≡ s) × (xs ≡ [])
  only_cons x s [] e = (same_some x s e, refl)
  only_cons x s (y ∷ xs) e = absurd cc

  only_here : (x s : Segment) (xs : List Segment) → kind x ≡ true → only (x ∷ filter kind xs) ≡ Some s → IsOnly kind (x ∷ xs) s
  only_here x s xs is e =
      let both = only_cons x s (filter kind xs) e in
      record {
        before = [];
        after = xs;
        place = ap (λ y. y ∷ xs) both.0;
        is = rw (← both.0) is;
        none_before = tt;
        none_after = passes_none xs both.1;
      }

  only_later : (x s : Segment) (xs : List Segment) → kind x ≡ false → IsOnly kind xs s → IsOnly kind (x ∷ xs) s
  only_later x s xs not_ h =
      record {
        before = x ∷ h.before;
        after = h.after;
        place = ap (λ ys. x ∷ ys) h.place;
        is = h.is;
        none_before = (not_, h.none_before);
        none_after = h.none_after;
      }

  only_from : (part : List Segment) (s : Segment) → only (filter kind part) ≡ Some s → IsOnly kind part s
  only_from [] s e = absurd cc
  only_from (x ∷ xs) s e =
      elim (cases_Bool (kind x)) [
        | inl is ↦ only_here x s xs is (sym (rw is refl) ∙ e)
        | inr not_ ↦ only_later x s xs not_ (only_from xs s (sym (rw not_ refl) ∙ e))
      ]

  only_is : (part : List Segment) (s : Segment) → IsOnly kind part s → only (filter kind part) ≡ Some s
  only_is part s h =
      let alone : filter kind (s ∷ h.after) ≡ s ∷ [] = rw h.is (ap (λ ys. s ∷ ys) (none_passes h.after h.none_after)) in
      ap (λ ys. only (filter kind ys)) h.place ∙ ap only (passes_behind h.before (s ∷ h.after) h.none_before ∙ alone)

  pub Says-only : (part : List Segment) → Says (only (filter kind part)) (IsOnly kind part)
  Says-only part s = (only_from part s, only_is part s)

  pub Says-of_only : {X : Type 0} (f : Segment → Option X) (Is : X → Segment → Type 0)
      → ((s : Segment) → Says (f s) (λ x. Is x s))
      → (part : List Segment)
      → Says (option_and_then f (only (filter kind part))) (λ x. OfOnly kind part (Is x))
  Says-of_only f Is each part x =
      let both = Says-then (only (filter kind part)) (IsOnly kind part) f (λ s y. Is y s) (Says-only part) each x in
      ((λ e. let h = both.0 e in record { segment = h.0; is_only = h.1; is = h.2 }), (λ h. both.1 (h.segment, h.is_only, h.is)))

  pub Decides-of_only : (t : Option Segment → Bool) (Is : Segment → Type 0)
      → t None ≡ false
      → ((s : Segment) → Decides (t (Some s)) (Is s))
      → (part : List Segment)
      → Decides (t (only (filter kind part))) (OfOnly kind part Is)
  Decides-of_only t Is none each part =
      let both = Decides-of (only (filter kind part)) (IsOnly kind part) t Is (Says-only part) none each in
      ((λ e. let h = both.0 e in record { segment = h.0; is_only = h.1; is = h.2 }), (λ h. both.1 (h.segment, h.is_only, h.is)))

  pub Decides-none : (part : List Segment) → Decides (not (list_any kind part)) (HasNone kind part)
  Decides-none [] = (λ _. tt, λ _. refl)
  Decides-none (x ∷ part) =
      elim (cases_Bool (kind x)) [
        | inl is ↦ rw is ((λ e. absurd (true≢false (sym e))), (λ h. absurd (true≢false h.0)))
        | inr not_ ↦ rw not_ ((λ e. (refl, (Decides-none part).0 e)), (λ h. (Decides-none part).1 h.1))
      ]

pub only_some : (kind : Segment → Bool) (part : List Segment) (s : Segment) → IsOnly kind part s → HasNone kind part → ⊥
only_some kind part s h none = let e : None ≡ Some s = sym (ap only (none_passes kind part none)) ∙ (Says-only kind part s).1 h in absurd cc

-- what the header is
pub at_header : (Is : List Segment → Type 0) (message : List Segment) → OfHeader Is message → Is (header message)
at_header Is message h = subst Is (sym (header-from_IsHeader h.header message h.is_header)) h.is

-- one segment of a kind, or none
module _ {X : Type 0} (kind : Segment → Bool) (f : Segment → Option X) (Is : X → Segment → Type 0)
    (each : (s : Segment) → Says (f s) (λ x. Is x s)) where
  abbrev found : List Segment → Option X
  found part = option_and_then f (only (filter kind part))

  one_or_none : (part : List Segment) (o : Option X)
      → found part ≡ o
      → (not (list_any kind part) || is_some o) ≡ true
      → OneOrNone kind Is part o
  one_or_none part None there e = (Decides-none kind part).0 (sym (or-false (not (list_any kind part))) ∙ e)
  one_or_none part (Some x) there e = (Says-of_only kind f Is each part x).0 there

  pub found-from_OneOrNone : (part : List Segment) (o : Option X) → OneOrNone kind Is part o → found part ≡ o
  found-from_OneOrNone part None none = ap (λ passing. option_and_then f (only passing)) (none_passes kind part none)
  found-from_OneOrNone part (Some x) h = (Says-of_only kind f Is each part x).1 h

  pub there-from_OneOrNone : (part : List Segment) (o : Option X) → OneOrNone kind Is part o → list_any kind part ≡ is_some o
  there-from_OneOrNone part None none = not-true (list_any kind part) ((Decides-none kind part).1 none)
  there-from_OneOrNone part (Some x) h =
      true_from_ne_false (list_any kind part)
      (λ e. only_some kind part h.segment h.is_only ((Decides-none kind part).0 (not_from_false (list_any kind part) e)))

  right : (t : Bool) → (not t || t) ≡ true
  right true = refl
  right false = refl

  pub Decides-one_or_none : (part : List Segment)
      → Decides (not (list_any kind part) || is_some (found part)) ((o : Option X) × OneOrNone kind Is part o)
  Decides-one_or_none part = (
    (λ e. (found part, one_or_none part (found part) refl e)),
    (λ h. ap (λ there. not there || is_some (found part)) (there-from_OneOrNone part h.0 h.1)
        ∙ ap (λ o. not (is_some h.0) || is_some o) (found-from_OneOrNone part h.0 h.1)
        ∙ right (is_some h.0)),
  )

  pub OneOrNone-found : (part : List Segment) (o : Option X) → OneOrNone kind Is part o → OneOrNone kind Is part (found part)
  OneOrNone-found part o h = subst (OneOrNone kind Is part) (sym (found-from_OneOrNone part o h)) h

-- the parts
module _ (begins ends : Segment → Bool) (apart : (s : Segment) → ends s ≡ false → begins s ≡ false) where
  abbrev pub cut : List Segment → List (List Segment)
  cut [] = []
  cut (s ∷ rest) = cond (begins s) ((s ∷ front ends rest) ∷ cut rest) (cut rest)

  none_cut : (segments : List Segment) → HasNone begins segments → cut segments ≡ []
  none_cut [] h = refl
  none_cut (s ∷ segments) h = rw h.0 (none_cut segments h.1)

  skipped : (part rest : List Segment) → HasNone begins part → cut (part ++ rest) ≡ cut rest
  skipped [] rest h = refl
  skipped (s ∷ part) rest h = rw h.0 (skipped part rest h.1)

  none_begins : (part : List Segment) → HasNone ends part → HasNone begins part
  none_begins [] h = tt
  none_begins (s ∷ part) h = (apart s h.0, none_begins part h.1)

  first_cut : (first : Segment) (body rest : List Segment)
      → begins first ≡ true
      → HasNone ends body
      → BeginsWith ends rest
      → cut (first ∷ (body ++ rest)) ≡ (first ∷ body) ∷ cut rest
  first_cut first body rest is within ended =
      let one : front ends (body ++ rest) ≡ body = front_is ends body rest within (stops-BeginsWith ends rest ended) in
      let later : cut (body ++ rest) ≡ cut rest = skipped body rest (none_begins body within) in
      rw is (rw (one, later) refl)

  pub cut_is : (parts : List (List Segment)) (segments : List Segment) → AreParts begins ends segments parts → cut segments ≡ parts
  cut_is [] segments h = none_cut segments h
  cut_is (part ∷ parts) segments h =
      let f = h.1 in
      ap cut f.place
      ∙ skipped f.before (f.first ∷ (f.body ++ h.0)) f.none_before
      ∙ first_cut f.first f.body h.0 f.is_begun f.within f.is_ended
      ∙ ap (λ others. (f.first ∷ f.body) ∷ others) (cut_is parts h.0 h.2) ∙ ap (λ one. one ∷ parts) (sym f.part_is)

  none_more : (before : List Segment) (s : Segment) → HasNone begins before → begins s ≡ false → HasNone begins (before ++ s ∷ [])
  none_more [] s h not_ = (not_, tt)
  none_more (x ∷ before) s h not_ = (h.0, none_more before s h.1 not_)

  ends_too : (s : Segment) → begins s ≡ true → ends s ≡ true
  ends_too s is =
      elim (cases_Bool (ends s)) [
        | inl e ↦ e
        | inr e ↦ absurd (true≢false (sym is ∙ apart s e))
      ]

  abbrev ReadsParts : List Segment → Type 0
  ReadsParts segments =
      ((before : List Segment) → HasNone begins before → AreParts begins ends (before ++ segments) (cut segments))
      × AreParts begins ends (behind ends segments) (cut segments)

  one_read : (s : Segment) (segments before : List Segment)
      → begins s ≡ true
      → HasNone begins before
      → ReadsParts segments
      → AreParts begins ends (before ++ s ∷ segments) ((s ∷ front ends segments) ∷ cut segments)
  one_read s segments before is none h = (
    behind ends segments,
    record {
      before = before;
      first = s;
      body = front ends segments;
      place = ap (λ later. before ++ (s ∷ later)) (front_behind ends segments);
      part_is = refl;
      none_before = none;
      is_begun = is;
      within = front_within ends segments;
      is_ended = BeginsWith-stops ends (behind ends segments) (behind_stops ends segments);
    },
    h.1,
  )

  reads_first : (s : Segment) (segments : List Segment) → begins s ≡ true → ReadsParts segments → ReadsParts (s ∷ segments)
  reads_first s segments is h =
      let ended : ends s ≡ true = ends_too s is in
      rw (is, ended) ((λ before none. one_read s segments before is none h), one_read s segments [] is tt h)

  over : (s : Segment) (segments before : List Segment)
      → begins s ≡ false
      → HasNone begins before
      → ReadsParts segments
      → AreParts begins ends (before ++ s ∷ segments) (cut segments)
  over s segments before not_ none h =
      subst (λ whole. AreParts begins ends whole (cut segments)) (append_assoc before (s ∷ []) segments)
      (h.0 (before ++ s ∷ []) (none_more before s none not_))

  reads_over : (s : Segment) (segments : List Segment) → begins s ≡ false → ReadsParts segments → ReadsParts (s ∷ segments)
  reads_over s segments not_ h =
      elim (cases_Bool (ends s)) [
        | inl ended ↦ rw (not_, ended) ((λ before none. over s segments before not_ none h), over s segments [] not_ tt h)
        | inr on ↦ rw (not_, on) ((λ before none. over s segments before not_ none h), h.1)
      ]

  reads : (segments : List Segment) → ReadsParts segments
  reads [] = ((λ before none. subst (HasNone begins) (sym (append-nil before)) none), tt)
  reads (s ∷ segments) =
      elim (cases_Bool (begins s)) [
        | inl is ↦ reads_first s segments is (reads segments)
        | inr not_ ↦ reads_over s segments not_ (reads segments)
      ]

  pub AreParts-cut : (segments : List Segment) → AreParts begins ends segments (cut segments)
  AreParts-cut segments = (reads segments).0 [] tt

-- the line groups
lines_apart : (s : Segment) → parts_lines s ≡ false → is_line_item s ≡ false
lines_apart s h =
    elim (cases_Bool (is_line_item s)) [
      | inl is ↦ let e : true ≡ false = sym (rw is refl) ∙ h in absurd (true≢false e)
      | inr not_ ↦ not_
    ]

lines_cut : (segments : List Segment) → line_groups segments ≡ cut is_line_item parts_lines lines_apart segments
lines_cut [] = refl
lines_cut (s ∷ rest) =
    ap (λ part. cond (is_line_item s) ((s ∷ part) ∷ line_groups rest) (line_groups rest)) (up_to_end-front rest)
    ∙ ap (λ parts. cond (is_line_item s) ((s ∷ front parts_lines rest) ∷ parts) parts) (lines_cut rest)

pub AreLineGroups-line_groups : (segments : List Segment) → AreLineGroups segments (line_groups segments)
AreLineGroups-line_groups segments =
    subst (AreLineGroups segments) (sym (lines_cut segments)) (AreParts-cut is_line_item parts_lines lines_apart segments)

pub line_groups-from_AreLineGroups : (groups : List (List Segment)) (segments : List Segment)
    → AreLineGroups segments groups
    → line_groups segments ≡ groups
line_groups-from_AreLineGroups groups segments h = lines_cut segments ∙ cut_is is_line_item parts_lines lines_apart groups segments h

pub Decides-lines : (t : List (List Segment) → Bool) (Are : List (List Segment) → Type 0)
    → ((groups : List (List Segment)) → Decides (t groups) (Are groups))
    → (segments : List Segment)
    → Decides (t (line_groups segments)) (OfLines Are segments)
Decides-lines t Are each segments = (
  (λ e. record { groups = line_groups segments; are_groups = AreLineGroups-line_groups segments; are = (each (line_groups segments)).0 e }),
  (λ h. ap t (line_groups-from_AreLineGroups h.groups segments h.are_groups) ∙ (each h.groups).1 h.are),
)

pub Refutes-lines : (t : List (List Segment) → Bool) (Are : List (List Segment) → Type 0)
    → ((groups : List (List Segment)) → Refutes (t groups) (Are groups))
    → (message : List Segment)
    → Refutes (t (line_groups message)) (OfLines Are message)
Refutes-lines t Are each message = (
  (λ e. record { groups = line_groups message; are_groups = AreLineGroups-line_groups message; are = (each (line_groups message)).0 e }),
  (λ h. ap t (line_groups-from_AreLineGroups h.groups message h.are_groups) ∙ (each h.groups).1 h.are),
)

pub of_lines : (Are : List (List Segment) → Type 0) (message : List Segment) → OfLines Are message → Are (line_groups message)
of_lines Are message h = subst Are (sym (line_groups-from_AreLineGroups h.groups message h.are_groups)) h.are
