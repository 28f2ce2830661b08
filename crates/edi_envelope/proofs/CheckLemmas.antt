-- One more segment, wherever the check stands.
use Rattle.std.proofs.Common.{◌≡◌, ℕ, ◌+◌, Bool, true, false, not, ◌&&◌, ◌||◌, List, [], ◌∷◌, ◌++◌, length, map, drop}
use Rattle.std.proofs.Common.{refl, sym, ap, subst, ◌∙◌, arith, append_assoc, append-nil, length-append, codes, Option, Some, None}
use Rattle.std.specs.List.{list_any, list_all}
use Rattle.std.specs.Str.{bytes_eq}
use Rattle.std.proofs.lemmas.Bool.{and_parts, and_from, and_left, or_parts, or_left, or_right, or_from, not-true, true≢false, false≢true}
use Rattle.std.proofs.lemmas.List.{map_push}
use Rattle.std.proofs.lemmas.List.Folds.{list_any-append}
use Rattle.edi_base.specs.Seen.{is_among, has_twice}
use Rattle.edi_segments.specs.declared.segment.Segment.{Segment}
use Rattle.std.specs.Prelude.{if◌then◌else◌}
use Rattle.std.proofs.Math.Bool.{or-false}
use Rattle.edi_envelope.specs.declared.fault.EnvelopeFault.{EnvelopeFault}
use Rattle.edi_envelope.specs.declared.fault.EnvelopeFault.TheVariants.{InterchangeFrame}
use Rattle.edi_envelope.specs.declared.header.HeaderMarks.{HeaderMarks}
use Rattle.edi_envelope.specs.declared.tally.Headers.{Headers}
use Rattle.edi_envelope.specs.declared.tally.Trailers.{Trailers}
use Rattle.edi_envelope.specs.declared.tally.Begun.{Begun}
use Rattle.edi_envelope.specs.declared.check.EnvelopeCheck.{EnvelopeCheck}
use Rattle.edi_envelope.specs.declared.check.Stage.{Stage}
use Rattle.edi_envelope.specs.declared.check.Stage.TheVariants.{Start, Between, Message, Lost, Ended, Broken}
use Rattle.edi_envelope.specs.declared.check.Place.TheVariants as place
use Rattle.edi_envelope.specs.Segments.{is_unb, is_unz, is_unh, is_unt, component, first_segment, last_segment, has_tag}
use Rattle.edi_envelope.specs.Header.{is_valid_header}
use Rattle.edi_envelope.specs.Blocks.{blocks}
use Rattle.edi_envelope.specs.Message.{is_frame, reference_of}
use Rattle.edi_envelope.specs.Reference.{filled_reference}
use Rattle.edi_envelope.specs.Interchange.{is_framed, is_outside_set, has_high_data, fault_of}
use Rattle.edi_envelope.specs.Check.{is_outer, has_identity, follows, marks_of, Heads, Trails, Fronted, IsBetween, IsInMessage}
use Rattle.edi_envelope.specs.Check.{IsEnded, IsBroken, StandsAt, Checked, is_sound, is_fine, is_fine_at, are_heads_sound, are_trails_sound}
use Rattle.edi_envelope.specs.Check.{IsGoingOn, IsBegun, Steps, marks_at, lowest_of, lost_fault}
use Rattle.edi_envelope.proofs.BlockLemmas.{blocks-at}
use Rattle.edi_envelope.proofs.FrameLemmas.{other_tag}
use Rattle.edi_envelope.proofs.JoinLemmas.{last_of}
use Rattle.edi_envelope.proofs.RowLemmas.{never_framed, not_begun, not_ended, last_fails, weaker, frame_tags, outer_tags}
use Rattle.edi_envelope.proofs.RowLemmas.{plain_more, split_last, unended}
use Rattle.edi_envelope.proofs.TallyLemmas.{all_more}
use Rattle.edi_envelope.proofs.EndLemmas.{fault_of-frame, ends_in_row, ends_lost, lowest_none, outside_more}

-- messages and their segments stand at no end of the interchange
inner : (tag : List ℕ) (s : Segment) → bytes_eq tag (codes "UNB") ≡ false →
    bytes_eq tag (codes "UNZ") ≡ false → has_tag tag s ≡ true → is_outer s ≡ false
inner tag s b z h =
    let same = other_tag s.tag tag in
    or_from (is_unb s) (is_unz s) (same (codes "UNB") b h) (same (codes "UNZ") z h)

pub unh_inner : (s : Segment) → is_unh s ≡ true → is_outer s ≡ false
unh_inner s h = inner (codes "UNH") s refl refl h

unt_inner : (s : Segment) → is_unt s ≡ true → is_outer s ≡ false
unt_inner s h = inner (codes "UNT") s refl refl h

-- ---- the frame

fronted_more : (lent : List Segment) (h : HeaderMarks) (s : Segment) → Fronted lent h → is_outer s ≡ false → Fronted (lent ++ s ∷ []) h
fronted_more [] h s f plain = absurd (false≢true f.begins)
fronted_more (u ∷ m) h s f plain = record {
  begins = f.begins;
  alone = list_any-append is_outer m (s ∷ []) ∙ or_from (list_any is_outer m) _ f.alone (or_from (is_outer s) false plain refl);
  header_is = f.header_is;
}

broken : (lent : List Segment) (h : HeaderMarks) (s : Segment) → Fronted lent h → is_unb s ≡ true → IsBroken (lent ++ s ∷ [])
broken [] h s f b = absurd (false≢true f.begins)
broken (u ∷ m) h s f b = λ more. ap (λ l. is_framed (u ∷ l)) (append_assoc m (s ∷ []) more) ∙ never_framed u m s more b

going : (lent : List Segment) (h : HeaderMarks) → Fronted lent h → IsGoingOn lent
going [] h f = absurd (false≢true f.begins)
going (u ∷ m) h f = (omega arith, not_ended u m f.begins f.alone)

drop_more_one : (lent : List Segment) (h : HeaderMarks) (s : Segment) → Fronted lent h → drop 1 (lent ++ s ∷ []) ≡ drop 1 lent ++ s ∷ []
drop_more_one [] h s f = absurd (false≢true f.begins)
drop_more_one (u ∷ m) h s f = refl

-- what follows the next segment
row_more : (lent : List Segment) (h : HeaderMarks) (s : Segment) (state : Bool) → Fronted lent h
    → ((more : List Segment) → follows false (drop 1 lent ++ more) ≡ follows state more)
    → (more : List Segment) → follows false (drop 1 (lent ++ s ∷ []) ++ more) ≡ follows state (s ∷ more)
row_more lent h s state f row more =
    ap (λ l. follows false (l ++ more)) (drop_more_one lent h s f)
    ∙ ap (follows false) (append_assoc (drop 1 lent) (s ∷ []) more) ∙ row (s ∷ more)

-- ---- the last message

pub last_at : (front : List Segment) (l : Segment) → last_segment (front ++ l ∷ []) ≡ l
last_at [] l = refl
last_at (x ∷ front) l = last_of x front l

last_behind : (u : Segment) (before : List Segment) (x : Segment) (rest : List Segment)
    → last_segment (u ∷ before ++ x ∷ rest) ≡ last_segment (x ∷ rest)
last_behind u before x rest =
    let end = split_last x rest in
    ap (λ l. last_segment (u ∷ before ++ l)) end.2
    ∙ ap (λ l. last_segment (u ∷ l)) (sym (append_assoc before end.0 (end.1 ∷ [])))
    ∙ last_of u (before ++ end.0) end.1 ∙ sym (last_at end.0 end.1) ∙ ap last_segment (sym end.2)

begun_so : (lent : List Segment) (j : EnvelopeCheck) (b : Begun) → IsInMessage lent j b → IsBegun lent
begun_so [] j b r = absurd (false≢true r.fronted.begins)
begun_so (u ∷ m) j b r = (
  ap (list_any is_unh) r.split ∙ list_any-append is_unh r.before (r.unh ∷ r.body)
      ∙ or_right (list_any is_unh r.before) _ (or_left (is_unh r.unh) _ r.begins),
  ap (λ l. is_unt (last_segment (u ∷ l))) r.split ∙ ap is_unt (last_behind u r.before r.unh r.body)
      ∙ last_fails is_unt r.unh r.body (other_tag r.unh.tag (codes "UNH") (codes "UNT") refl r.begins)
      (weaker is_unt is_frame (λ x h. (frame_tags x h).1) r.body r.plain),
)

heads_from : (a b : List (List Segment)) (h : Headers)
    → list_all (λ message. has_identity (first_segment message)) a ≡ list_all (λ message. has_identity (first_segment message)) b
    → length a ≡ length b
    → map reference_of a ≡ map reference_of b
    → Heads a h
    → Heads b h
heads_from a b h p n r heads = record {
  identified = heads.identified ∙ p;
  count = heads.count ∙ n;
  twice = λ e. heads.twice e ∙ ap has_twice r;
  seen = λ e o t is. heads.seen e o t is ∙ ap (is_among t) r;
}

-- a message that grows
module _ (before : List Segment) (unh : Segment) (body : List Segment) (s : Segment)
    (begins : is_unh unh ≡ true) (plain : list_any is_frame body ≡ false) (not_h : is_unh s ≡ false) where
  none_of : list_any is_unh body ≡ false
  none_of = weaker is_unh is_frame (λ x h. (frame_tags x h).0) body plain

  blocks_now : blocks (before ++ unh ∷ body) ≡ blocks before ++ (unh ∷ body) ∷ []
  blocks_now = blocks-at before unh body begins none_of

  blocks_next : blocks ((before ++ unh ∷ body) ++ s ∷ []) ≡ blocks before ++ (unh ∷ body ++ s ∷ []) ∷ []
  blocks_next =
      ap blocks (append_assoc before (unh ∷ body) (s ∷ []))
      ∙ blocks-at before unh (body ++ s ∷ []) begins
      (list_any-append is_unh body (s ∷ []) ∙ or_from (list_any is_unh body) _ none_of (or_from (is_unh s) false not_h refl))

  heads_next : (h : Headers) → Heads (blocks (before ++ unh ∷ body)) h → Heads (blocks ((before ++ unh ∷ body) ++ s ∷ [])) h
  heads_next h heads =
      let now = subst (λ (l : List (List Segment)). Heads l h) blocks_now heads in
      subst (λ (l : List (List Segment)). Heads l h) (sym blocks_next)
      (heads_from (blocks before ++ (unh ∷ body) ∷ []) (blocks before ++ (unh ∷ body ++ s ∷ []) ∷ []) h
      (all_more (λ message. has_identity (first_segment message)) (blocks before) (unh ∷ body)
      ∙ sym (all_more (λ message. has_identity (first_segment message)) (blocks before) (unh ∷ body ++ s ∷ [])))
      (length-append (blocks before) ((unh ∷ body) ∷ []) ∙ sym (length-append (blocks before) ((unh ∷ body ++ s ∷ []) ∷ [])))
      (map_push reference_of (blocks before) (unh ∷ body) ∙ sym (map_push reference_of (blocks before) (unh ∷ body ++ s ∷ [])))
      now)

-- ---- where the check stands next

if_not : (t f x y : Bool) → t ≡ false → f ≡ true → (if t then x else not f && y) ≡ false
if_not t f x y is up = rw (is, up) refl

if_so : (t x y : Bool) → t ≡ true → (if t then x else y) ≡ x
if_so t x y is = rw is refl

if_plain : (t f x y : Bool) → t ≡ false → f ≡ false → (if t then x else not f && y) ≡ y
if_plain t f x y is down = rw (is, down) refl

first_outside : (s : Segment) (h : HeaderMarks) (outside : Bool) → h ≡ marks_of s → outside ≡ (false || (h.seven_bit && has_high_data s))
    → outside ≡ is_outside_set (s ∷ [])
unfolding is_outside_set
first_outside s h outside marks is =
    is ∙ ap (λ (k : HeaderMarks). k.seven_bit && has_high_data s) marks
    ∙ ap (λ b. (marks_of s).seven_bit && b) (sym (or-false (has_high_data s)))

follows_frame : (s : Segment) (more : List Segment) → is_unt s ≡ false → is_frame s ≡ true → follows true (s ∷ more) ≡ false
follows_frame s more not_t frame = if_not (is_unt s) (is_frame s) (follows false more) (follows true more) not_t frame

follows_unt : (s : Segment) (more : List Segment) → is_unt s ≡ true → follows true (s ∷ more) ≡ follows false more
follows_unt s more t = if_so (is_unt s) (follows false more) (not (is_frame s) && follows true more) t

follows_plain : (s : Segment) (more : List Segment) → is_unt s ≡ false → is_frame s ≡ false → follows true (s ∷ more) ≡ follows true more
follows_plain s more not_t plain = if_plain (is_unt s) (is_frame s) (follows false more) (follows true more) not_t plain

none_at : (fault : Option EnvelopeFault) (new : EnvelopeCheck) → is_fine_at (Ended fault) new ≡ true → fault ≡ None
none_at None new fine = refl
none_at (Some fault) new fine = absurd (false≢true fine)

at_stage : (old : EnvelopeCheck) (stage : Stage) (lent : List Segment) → old.stage ≡ stage → Checked lent old → StandsAt stage lent old
at_stage old stage lent is checked = subst (λ (st : Stage). StandsAt st lent old) is checked

fine_at : (old : EnvelopeCheck) (stage : Stage) → old.stage ≡ stage → is_fine_at stage old ≡ true → is_fine old ≡ true
fine_at old stage is fine = ap (λ (st : Stage). is_fine_at st old) is ∙ fine

-- a segment after which a fault is sure
refuses : (old : EnvelopeCheck) (s : Segment) (new : EnvelopeCheck) → is_fine new ≡ false
    → ((lent : List Segment) → Checked lent old → Checked (lent ++ s ∷ []) new)
    → Steps old place.Refused s new
refuses old s new bad checked = record {
  checked = checked;
  placed = λ lent before fine. tt;
  taken = λ e fine. absurd cc;
  refuses = λ e. bad;
  falls = λ fine. absurd (true≢false (sym fine ∙ bad));
}

header_of : (new : EnvelopeCheck) (s : Segment) → is_sound new ≡ true → new.header ≡ marks_of s → is_valid_header s ≡ true
header_of new s fine marks =
    ap (λ (k : HeaderMarks). k.taken) (sym marks) ∙ (and_parts _ _ (and_parts _ _ (and_parts _ _ (and_parts _ _ fine).0).0).0).0

module _ (j : EnvelopeCheck) (s : Segment) where
  abbrev at : Stage → EnvelopeCheck
  at stage = record { stage = stage; header = j.header; outside = j.outside; headers = j.headers; trailers = j.trailers }

  -- the first one
  pub begins : (h : HeaderMarks) (outside : Bool) → j.stage ≡ Start → is_unb s ≡ true → h ≡ marks_of s
      → outside ≡ (j.outside || (h.seven_bit && has_high_data s))
      → Steps j place.Header s (record { stage = Between; header = h; outside = outside; headers = j.headers; trailers = j.trailers })
  begins h outside is b marks seen = record {
    checked = λ lent checked.
        let fresh = at_stage j Start lent is checked in
        let sees : outside ≡ is_outside_set (s ∷ []) =
        first_outside s h outside marks (seen ∙ ap (λ o. o || (h.seven_bit && has_high_data s)) fresh.outside) in
        subst (λ (l : List Segment). IsBetween (l ++ s ∷ [])
        (record { stage = Between; header = h; outside = outside; headers = j.headers; trailers = j.trailers }))
        (sym fresh.none)
        (record {
          fronted = record { begins = b; alone = refl; header_is = marks };
          outside = sees;
          row = λ more. refl;
          heads = fresh.heads;
          trails = fresh.trails;
        });
    placed = λ lent checked fine. (
      (at_stage j Start lent is checked).none,
      b,
      header_of
          (record { stage = Between; header = h; outside = outside; headers = j.headers; trailers = j.trailers }) s fine marks,
    );
    refuses = λ e. absurd cc;
    taken = λ e fine. header_of
        (record { stage = Between; header = h; outside = outside; headers = j.headers; trailers = j.trailers }) s fine marks;
    falls = λ fine. fine_at j Start is refl;
  }

  pub begins_badly : j.stage ≡ Start → is_unb s ≡ false → Steps j place.Refused s (at Broken)
  begins_badly is b = refuses j s (at Broken) refl
      (λ lent checked. let fresh = at_stage j Start lent is checked in
      subst (λ (l : List Segment). IsBroken (l ++ s ∷ [])) (sym fresh.none) (λ more. not_begun s more b))

  -- UNB behind UNB
  breaks : ((lent : List Segment) → Checked lent j → Fronted lent j.header) → is_unb s ≡ true → Steps j place.Refused s (at Broken)
  breaks fronted b = refuses j s (at Broken) refl (λ lent checked. broken lent j.header s (fronted lent checked) b)

  pub breaks_between : j.stage ≡ Between → is_unb s ≡ true → Steps j place.Refused s (at Broken)
  breaks_between is b = breaks (λ lent checked. (at_stage j Between lent is checked).fronted) b

  pub breaks_in_message : (begun : Begun) → j.stage ≡ Message begun → is_unb s ≡ true → Steps j place.Refused s (at Broken)
  breaks_in_message begun is b = breaks (λ lent checked. (at_stage j (Message begun) lent is checked).fronted) b

  pub breaks_when_lost : j.stage ≡ Lost → is_unb s ≡ true → Steps j place.Refused s (at Broken)
  breaks_when_lost is b = breaks (λ lent checked. (at_stage j Lost lent is checked).fronted) b

  -- what has ended or is broken
  pub stays_broken : j.stage ≡ Broken → Steps j place.Refused s (at Broken)
  stays_broken is = refuses j s (at Broken) refl
      (λ lent checked more. ap is_framed (append_assoc lent (s ∷ []) more) ∙ at_stage j Broken lent is checked (s ∷ more))

  pub breaks_ended : (fault : Option EnvelopeFault) → j.stage ≡ Ended fault → Steps j place.Refused s (at Broken)
  breaks_ended fault is = refuses j s (at Broken) refl
      (λ lent checked more. ap is_framed (append_assoc lent (s ∷ []) more) ∙ (at_stage j (Ended fault) lent is checked).last s more)

  -- UNZ
  pub ends_between : (fault : Option EnvelopeFault) → j.stage ≡ Between → is_unz s ≡ true → fault ≡ lowest_of (marks_at j s)
      → Steps j place.Trailer s (at (Ended fault))
  ends_between fault is z marks = record {
    checked = λ lent checked.
        subst (λ (f : Option EnvelopeFault). IsEnded (lent ++ s ∷ []) f) (sym marks)
        (ends_in_row lent s j (at_stage j Between lent is checked) z);
    placed = λ lent checked fine. (going lent j.header (at_stage j Between lent is checked).fronted, z);
    refuses = λ e. absurd cc;
    taken = λ e fine. absurd cc;
    falls = λ fine. fine_at j Between is (lowest_none j s (sym marks ∙ none_at fault (at (Ended fault)) fine));
  }

  ends_lost_at : ((lent : List Segment) → Checked lent j → Fronted lent j.header × (follows false (drop 1 lent) ≡ false))
      → is_unz s ≡ true
      → Steps j place.Refused s (at (Ended (Some (lost_fault j.header))))
  ends_lost_at known z = refuses j s (at (Ended (Some (lost_fault j.header)))) refl
      (λ lent checked. let both = known lent checked in ends_lost lent s j.header both.0 z both.1)

  pub ends_in_message : (begun : Begun) → j.stage ≡ Message begun → is_unz s ≡ true
      → Steps j place.Refused s (at (Ended (Some (lost_fault j.header))))
  ends_in_message begun is z = ends_lost_at
      (λ lent checked. let r = at_stage j (Message begun) lent is checked in
      (r.fronted, ap (follows false) (sym (append-nil (drop 1 lent))) ∙ r.row [])) z

  pub ends_when_lost : j.stage ≡ Lost → is_unz s ≡ true → Steps j place.Refused s (at (Ended (Some (lost_fault j.header))))
  ends_when_lost is z = ends_lost_at
      (λ lent checked. let r = at_stage j Lost lent is checked in
      (r.fronted, ap (follows false) (sym (append-nil (drop 1 lent))) ∙ r.row [])) z

  -- what is no row of messages
  pub loses_between : j.stage ≡ Between → is_outer s ≡ false → is_unh s ≡ false → Steps j place.Refused s (at Lost)
  loses_between is plain not_h = refuses j s (at Lost) refl
      (λ lent checked. let r = at_stage j Between lent is checked in record {
        fronted = fronted_more lent j.header s r.fronted plain;
        row = λ more. row_more lent j.header s false r.fronted r.row more ∙ and_left (is_unh s) (follows true more) not_h;
      })

  pub stays_lost : j.stage ≡ Lost → is_outer s ≡ false → Steps j place.Refused s (at Lost)
  stays_lost is plain = refuses j s (at Lost) refl
      (λ lent checked. let r = at_stage j Lost lent is checked in record {
        fronted = fronted_more lent j.header s r.fronted plain;
        row = λ more.
            ap (λ l. follows false (l ++ more)) (drop_more_one lent j.header s r.fronted)
            ∙ ap (follows false) (append_assoc (drop 1 lent) (s ∷ []) more) ∙ r.row (s ∷ more);
      })

  module _ (outside : Bool) (sees : outside ≡ (j.outside || (j.header.seven_bit && has_high_data s))) where
    seen_by : (lent : List Segment) → Fronted lent j.header → j.outside ≡ is_outside_set lent → outside ≡ is_outside_set (lent ++ s ∷ [])
    seen_by lent f before = outside_more lent s j.header j.outside outside f before sees

    abbrev put : Stage → Headers → Trailers → EnvelopeCheck
    put stage headers trailers = record { stage = stage; header = j.header; outside = outside; headers = headers; trailers = trailers }

    -- less is sound with more
    sound_before : (headers : Headers) (trailers : Trailers)
        → (are_heads_sound headers ≡ true → are_heads_sound j.headers ≡ true)
        → (are_trails_sound trailers ≡ true → are_trails_sound j.trailers ≡ true)
        → is_sound (put Between headers trailers) ≡ true
        → is_sound j ≡ true
    sound_before headers trailers heads trails fine =
        let with_trails = and_parts _ _ fine in
        let with_heads = and_parts _ _ with_trails.0 in
        let with_outside = and_parts _ _ with_heads.0 in
        let inside : j.outside ≡ false = (or_parts j.outside _ (sym sees ∙ not-true outside with_outside.1)).0 in
        and_from _ _ (and_from _ _ (and_from _ _ with_outside.0 (ap not inside)) (heads with_heads.1)) (trails with_trails.1)

    pub loses_in_message : (begun : Begun) → j.stage ≡ Message begun → is_outer s ≡ false → is_unt s ≡ false → is_frame s ≡ true
        → Steps j place.Refused s (put Lost j.headers j.trailers)
    loses_in_message begun is plain not_t frame = refuses j s (put Lost j.headers j.trailers) refl
        (λ lent checked. let r = at_stage j (Message begun) lent is checked in record {
          fronted = fronted_more lent j.header s r.fronted plain;
          row = λ more. row_more lent j.header s true r.fronted r.row more ∙ follows_frame s more not_t frame;
        })

    -- UNH between messages
    pub opens : (headers : Headers) (begun : Begun) → j.stage ≡ Between → is_unh s ≡ true
        → ((messages : List (List Segment)) → Heads messages j.headers → Heads (messages ++ (s ∷ []) ∷ []) headers)
        → (are_heads_sound headers ≡ true → are_heads_sound j.headers ≡ true)
        → begun.reference ≡ filled_reference (component s 0 0)
        → begun.count ≡ 1
        → Steps j place.MessageHeader s (put (Message begun) headers j.trailers)
    opens headers begun is h heads sound reference count = record {
      checked = λ lent checked. let r = at_stage j Between lent is checked in record {
        fronted = fronted_more lent j.header s r.fronted (unh_inner s h);
        outside = seen_by lent r.fronted r.outside;
        row = λ more. row_more lent j.header s false r.fronted r.row more ∙ ap (λ b. b && follows true more) h;
        before = drop 1 lent;
        unh = s;
        body = [];
        split = drop_more_one lent j.header s r.fronted;
        begins = h;
        plain = refl;
        heads =
            subst (λ (l : List (List Segment)). Heads l headers)
            (sym (ap blocks (drop_more_one lent j.header s r.fronted) ∙ blocks-at (drop 1 lent) s [] h refl))
            (heads (blocks (drop 1 lent)) r.heads);
        trails = r.trails;
        count = count;
        reference = reference;
      };
      placed = λ lent checked fine. (going lent j.header (at_stage j Between lent is checked).fronted, h);
      refuses = λ e. absurd cc;
      taken = λ e fine. absurd cc;
      falls = λ fine. fine_at j Between is (sound_before headers j.trailers sound (λ t. t) fine);
    }

    -- UNT in a message
    pub shuts : (begun : Begun) (trailers : Trailers) → j.stage ≡ Message begun → is_unt s ≡ true
        → ((messages : List (List Segment)) (unh : Segment) (body : List Segment) → Trails messages j.trailers
        → begun.count ≡ length (unh ∷ body) → begun.reference ≡ filled_reference (component unh 0 0)
        → Trails (messages ++ (unh ∷ body ++ s ∷ []) ∷ []) trailers)
        → (are_trails_sound trailers ≡ true → are_trails_sound j.trailers ≡ true)
        → Steps j place.MessageTrailer s (put Between j.headers trailers)
    shuts begun trailers is t trails sound = record {
      checked = λ lent checked.
          let r = at_stage j (Message begun) lent is checked in
          let not_h = other_tag s.tag (codes "UNT") (codes "UNH") refl t in
          let now = drop_more_one lent j.header s r.fronted ∙ ap (λ l. l ++ s ∷ []) r.split in
          record {
            fronted = fronted_more lent j.header s r.fronted (unt_inner s t);
            outside = seen_by lent r.fronted r.outside;
            row = λ more. row_more lent j.header s true r.fronted r.row more ∙ follows_unt s more t;
            heads =
                subst (λ (l : List Segment). Heads (blocks l) j.headers) (sym now)
                (heads_next r.before r.unh r.body s r.begins r.plain not_h j.headers
                (subst (λ (l : List Segment). Heads (blocks l) j.headers) r.split r.heads));
            trails =
                subst (λ (l : List (List Segment)). Trails l trailers)
                (sym (ap blocks now ∙ blocks_next r.before r.unh r.body s r.begins r.plain not_h))
                (trails (blocks r.before) r.unh r.body r.trails r.count r.reference);
          };
      placed = λ lent checked fine.
          let r = at_stage j (Message begun) lent is checked in (going lent j.header r.fronted, begun_so lent j begun r, t);
      refuses = λ e. absurd cc;
      taken = λ e fine. absurd cc;
      falls = λ fine. fine_at j (Message begun) is (sound_before j.headers trailers (λ h. h) sound fine);
    }

    -- more of a message
    pub goes_on : (begun more : Begun) → j.stage ≡ Message begun → is_outer s ≡ false → is_unt s ≡ false → is_frame s ≡ false
        → more.reference ≡ begun.reference
        → more.count ≡ begun.count + 1
        → Steps j place.Inside s (put (Message more) j.headers j.trailers)
    goes_on begun more is plain not_t frameless reference count = record {
      checked = λ lent checked.
          let r = at_stage j (Message begun) lent is checked in
          let not_h = (frame_tags s frameless).0 in
          let now = drop_more_one lent j.header s r.fronted ∙ ap (λ l. l ++ s ∷ []) r.split in
          record {
            fronted = fronted_more lent j.header s r.fronted plain;
            outside = seen_by lent r.fronted r.outside;
            row = λ rest. row_more lent j.header s true r.fronted r.row rest ∙ follows_plain s rest not_t frameless;
            before = r.before;
            unh = r.unh;
            body = r.body ++ s ∷ [];
            split = now ∙ append_assoc r.before (r.unh ∷ r.body) (s ∷ []);
            begins = r.begins;
            plain = plain_more r.body s r.plain frameless;
            heads =
                subst (λ (l : List Segment). Heads (blocks l) j.headers) (sym now)
                (heads_next r.before r.unh r.body s r.begins r.plain not_h j.headers
                (subst (λ (l : List Segment). Heads (blocks l) j.headers) r.split r.heads));
            trails = r.trails;
            count = count ∙ ap (λ n. n + 1) r.count ∙ sym (length-append (r.unh ∷ r.body) (s ∷ []));
            reference = reference ∙ r.reference;
          };
      placed = λ lent checked fine.
          let r = at_stage j (Message begun) lent is checked in
          (going lent j.header r.fronted, begun_so lent j begun r, frameless, (outer_tags s plain).1);
      refuses = λ e. absurd cc;
      taken = λ e fine. absurd cc;
      falls = λ fine. fine_at j (Message begun) is (sound_before j.headers j.trailers (λ h. h) (λ t. t) fine);
    }

abbrev pub at_stage_of : EnvelopeCheck → Stage → EnvelopeCheck
at_stage_of j stage = record { stage = stage; header = j.header; outside = j.outside; headers = j.headers; trailers = j.trailers }

pub ended_with : (j : EnvelopeCheck) (s : Segment) (fault : EnvelopeFault) → fault ≡ lost_fault j.header
    → Steps j place.Refused s (at_stage_of j (Ended (Some (lost_fault j.header))))
    → Steps j place.Refused s (at_stage_of j (Ended (Some fault)))
ended_with j s fault is steps =
    subst (λ (f : EnvelopeFault). Steps j place.Refused s (at_stage_of j (Ended (Some f)))) (sym is) steps

-- where UNZ has not ended the interchange, its frame is not whole
pub frame_fault : (stage : Stage) → ((fault : Option EnvelopeFault) → stage ≡ Ended fault → ⊥) → (j : EnvelopeCheck) (lent : List Segment)
    → StandsAt stage lent j
    → fault_of lent ≡ Some InterchangeFrame
frame_fault Start open_still j lent h = fault_of-frame lent (unended lent (ap (λ l. is_unz (last_segment l)) h.none))
frame_fault Between open_still j lent h = fault_of-frame lent (unended lent (going lent j.header h.fronted).1)
frame_fault (Message begun) open_still j lent h = fault_of-frame lent (unended lent (going lent j.header h.fronted).1)
frame_fault Lost open_still j lent h = fault_of-frame lent (unended lent (going lent j.header h.fronted).1)
frame_fault (Ended fault) open_still j lent h = absurd (open_still fault refl)
frame_fault Broken open_still j lent h = fault_of-frame lent (ap is_framed (sym (append-nil lent)) ∙ h [])
