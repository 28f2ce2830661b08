-- The frame and the row of messages, segment by segment.
use Rattle.std.proofs.Common.{◌≡◌, suc, ◌-◌, Bool, true, false, ◌&&◌, ◌||◌, ◌⊎◌, inl, inr, List, [], ◌∷◌, ◌++◌, length, refl}
use Rattle.std.proofs.Common.{sym, ap, ◌∙◌, arith, append_assoc, append-nil, codes, not}
use Rattle.std.specs.List.{list_any, list_all}
use Rattle.std.specs.Prelude.{◌==◌}
use Rattle.std.proofs.lemmas.Bool.{or_parts, or_left, or_right, or_from, cases_Bool, and_left, ne_eqb, true≢false, false≢true}
use Rattle.std.proofs.lemmas.List.Folds.{list_any-append}
use Rattle.edi_segments.specs.declared.segment.Segment.{Segment}
use Rattle.edi_envelope.specs.Segments.{is_unb, is_unz, is_unh, is_unt, is_ung, is_une, first_segment, last_segment, between}
use Rattle.edi_envelope.specs.Blocks.{before_message, blocks}
use Rattle.edi_envelope.specs.Message.{is_frame, is_block}
use Rattle.edi_envelope.specs.Interchange.{is_framed}
use Rattle.edi_envelope.specs.Check.{is_outer, follows}
use Rattle.edi_envelope.proofs.FrameLemmas.{other_tag}
use Rattle.edi_envelope.proofs.JoinLemmas.{last_of, between_of}

-- a list that is not empty has a last one
pub split_last : (x : Segment) (xs : List Segment) → (front : List Segment) × (last : Segment) × (x ∷ xs ≡ front ++ last ∷ [])
split_last x [] = ([], x, refl)
split_last x (y ∷ ys) =
    let rest = split_last y ys in (x ∷ rest.0, rest.1, ap (λ l. x ∷ l) rest.2)

-- behind a first one: the last one, and what stands between
module _ (u : Segment) (mid : List Segment) (s : Segment) where
  pub at_end : last_segment (u ∷ mid ++ s ∷ []) ≡ s
  at_end = last_of u mid s

  pub inside : (p : Segment → Bool) (x : Segment) (rest : List Segment)
      → p s ≡ true
      → list_any p (between (u ∷ mid ++ s ∷ x ∷ rest)) ≡ true
  inside p x rest h =
      let end = split_last x rest in
      let whole : u ∷ mid ++ s ∷ x ∷ rest ≡ u ∷ (mid ++ s ∷ end.0) ++ end.1 ∷ [] =
      ap (λ l. u ∷ mid ++ s ∷ l) end.2 ∙ ap (λ l. u ∷ l) (sym (append_assoc mid (s ∷ end.0) (end.1 ∷ []))) in
      ap (λ l. list_any p (between l)) whole
      ∙ ap (list_any p) (between_of u (mid ++ s ∷ end.0) end.1)
      ∙ list_any-append p mid (s ∷ end.0)
      ∙ or_right (list_any p mid) (list_any p (s ∷ end.0)) (or_left (p s) (list_any p end.0) h)

  -- one that may stand neither last nor between
  pub misplaced : (p q : Segment → Bool) (rest : List Segment)
      → p s ≡ true
      → q s ≡ false
      → (q (last_segment (u ∷ mid ++ s ∷ rest)) ≡ false) ⊎ (list_any p (between (u ∷ mid ++ s ∷ rest)) ≡ true)
  misplaced p q [] h off = inl (ap q at_end ∙ off)
  misplaced p q (x ∷ rest) h off = inr (inside p x rest h)

not_both : (a b c : Bool) → (b ≡ false) ⊎ (c ≡ true) → (a && b && not c) ≡ false
not_both true true true e = refl
not_both true true false (inl e) = absurd (true≢false e)
not_both true true false (inr e) = absurd (false≢true e)
not_both true false c e = refl
not_both false b c e = refl

-- none of the last
pub last_fails : (p : Segment → Bool) (x : Segment) (xs : List Segment)
    → p x ≡ false
    → list_any p xs ≡ false
    → p (last_segment (x ∷ xs)) ≡ false
last_fails p x [] h none = h
last_fails p x (y ∷ ys) h none =
    let parts = or_parts (p y) (list_any p ys) none in
    let back : suc (suc (length ys)) - 1 ≡ suc (length ys) = omega arith in
    let one_less : suc (length ys) - 1 ≡ length ys = omega arith in
    rw back (rw one_less at (last_fails p y ys parts.0 parts.1))

pub weaker : (p q : Segment → Bool) → ((x : Segment) → q x ≡ false → p x ≡ false) → (xs : List Segment)
    → list_any q xs ≡ false
    → list_any p xs ≡ false
weaker p q implies [] h = refl
weaker p q implies (x ∷ xs) h =
    let parts = or_parts (q x) (list_any q xs) h in
    or_from (p x) (list_any p xs) (implies x parts.0) (weaker p q implies xs parts.1)

pub frame_tags : (x : Segment) → is_frame x ≡ false → (is_unh x ≡ false) × (is_unt x ≡ false)
frame_tags x h =
    let tags = or_parts _ _ (or_parts _ _ (or_parts _ _ h).0).0 in (tags.0, tags.1)

pub outer_tags : (x : Segment) → is_outer x ≡ false → (is_unb x ≡ false) × (is_unz x ≡ false)
outer_tags x h = or_parts (is_unb x) (is_unz x) h

unt_is_frame : (x : Segment) → is_unt x ≡ true → is_frame x ≡ true
unt_is_frame x h = or_left _ _ (or_left _ _ (or_right (is_unh x) (is_unt x) h))

-- ---- the frame

-- what stands after UNB and may not stand there
pub never_framed : (u : Segment) (mid : List Segment) (s : Segment) (rest : List Segment)
    → is_unb s ≡ true
    → is_framed (u ∷ mid ++ s ∷ rest) ≡ false
unfolding is_framed
never_framed u mid s rest h =
    not_both (is_unb u) _ _
    (misplaced u mid s is_outer is_unz rest (or_left (is_unb s) (is_unz s) h) (other_tag s.tag (codes "UNB") (codes "UNZ") refl h))

-- UNZ, and something behind it
pub framed_once : (u : Segment) (mid : List Segment) (z : Segment) (x : Segment) (rest : List Segment)
    → is_unz z ≡ true
    → is_framed (u ∷ mid ++ z ∷ x ∷ rest) ≡ false
unfolding is_framed
framed_once u mid z x rest h =
    not_both (is_unb u) _ _ (inr (inside u mid z is_outer x rest (or_right (is_unb z) (is_unz z) h)))

pub not_begun : (s : Segment) (rest : List Segment) → is_unb s ≡ false → is_framed (s ∷ rest) ≡ false
unfolding is_framed
not_begun s rest h = and_left _ _ (and_left (is_unb s) _ h)

pub framed_by : (u : Segment) (mid : List Segment) (z : Segment)
    → is_unb u ≡ true
    → list_any is_outer mid ≡ false
    → is_unz z ≡ true
    → is_framed (u ∷ mid ++ z ∷ []) ≡ true
unfolding is_framed
framed_by u mid z b none h = rw (at_end u mid z, between_of u mid z, b, none, h) refl

pub not_ended : (u : Segment) (mid : List Segment) → is_unb u ≡ true →
    list_any is_outer mid ≡ false → is_unz (last_segment (u ∷ mid)) ≡ false
not_ended u mid b none =
    last_fails is_unz u mid (other_tag u.tag (codes "UNB") (codes "UNZ") refl b)
    (weaker is_unz is_outer (λ x h. (outer_tags x h).1) mid none)

pub unended : (xs : List Segment) → is_unz (last_segment xs) ≡ false → is_framed xs ≡ false
unfolding is_framed
unended xs h = not_both (is_unb (first_segment xs)) _ _ (inl h)

-- ---- messages

-- UNH without UNT
no_unt : (u : Segment) (body : List Segment) → is_unh u ≡ true → list_any is_frame body ≡ false → is_block (u ∷ body) ≡ false
no_unt u body is none =
    not_both (is_unh u) _ _
    (inl (last_fails is_unt u body (other_tag u.tag (codes "UNH") (codes "UNT") refl is)
    (weaker is_unt is_frame (λ x h. (frame_tags x h).1) body none)))

-- another frame than UNT
bad_frame : (u : Segment) (body : List Segment) (s : Segment) (rest : List Segment)
    → is_frame s ≡ true
    → is_unt s ≡ false
    → is_block (u ∷ body ++ s ∷ rest) ≡ false
bad_frame u body s rest h off = not_both (is_unh u) _ _ (misplaced u body s is_frame is_unt rest h off)

-- UNT, and something behind it
unt_inside : (u : Segment) (body : List Segment) (t : Segment) (x : Segment) (rest : List Segment)
    → is_unt t ≡ true
    → is_block (u ∷ body ++ t ∷ x ∷ rest) ≡ false
unt_inside u body t x rest h = not_both (is_unh u) _ _ (inr (inside u body t is_frame x rest (unt_is_frame t h)))

whole_block : (u : Segment) (body : List Segment) (t : Segment)
    → is_unh u ≡ true
    → list_any is_frame body ≡ false
    → is_unt t ≡ true
    → is_block (u ∷ body ++ t ∷ []) ≡ true
whole_block u body t is none h = rw (at_end u body t, between_of u body t, is, none, h) refl

-- between UNB and UNZ stand messages and nothing else
abbrev pub is_row : List Segment → Bool
is_row xs = (length (before_message xs) == 0) && list_all is_block (blocks xs)

pub plain_more : (body : List Segment) (s : Segment) → list_any is_frame body ≡ false →
    is_frame s ≡ false → list_any is_frame (body ++ s ∷ []) ≡ false
plain_more body s none h =
    list_any-append is_frame body (s ∷ []) ∙ or_from (list_any is_frame body) _ none (or_from (is_frame s) false h refl)

-- a message that is begun, and what follows
abbrev BegunFollows : List Segment → Type 0
BegunFollows xs = (u : Segment) (body : List Segment) → is_unh u ≡ true → list_any is_frame body ≡ false
    → (is_block (u ∷ body ++ before_message xs) && list_all is_block (blocks xs)) ≡ follows true xs

-- a message that has ended, and what follows
abbrev Done : List Segment → Type 0
Done xs = (u : Segment) (body : List Segment) (t : Segment) → is_unh u ≡ true → list_any is_frame body ≡ false → is_unt t ≡ true
    → (is_block (u ∷ body ++ t ∷ before_message xs) && list_all is_block (blocks xs)) ≡ follows false xs

begun_end : BegunFollows []
begun_end u body is none = ap (λ l. is_block (u ∷ l) && true) (append-nil body) ∙ ap (λ b. b && true) (no_unt u body is none)

done_end : Done []
done_end u body t is none h = rw (whole_block u body t is none h) refl

begun_more : (s : Segment) (xs : List Segment) → BegunFollows xs → Done xs → BegunFollows (s ∷ xs)
begun_more s xs more done u body is none =
    elim (cases_Bool (is_unh s)) [
      | inl unh ↦
          let not_t = other_tag s.tag (codes "UNH") (codes "UNT") refl unh in
          rw (unh, not_t, append-nil body, no_unt u body is none) refl
      | inr not_h ↦ elim (cases_Bool (is_unt s)) [
        | inl unt ↦ rw (not_h, unt) (done u body s is none unt)
        | inr not_t ↦ elim (cases_Bool (is_frame s)) [
          | inl frame ↦
              let group : (is_ung s || is_une s) ≡ true = rw (not_h, not_t) at frame in
              rw (not_h, not_t, group, bad_frame u body s (before_message xs) frame not_t) refl
          | inr plain ↦
              let no_group : (is_ung s || is_une s) ≡ false = rw (not_h, not_t) at plain in
              let joined : (body ++ s ∷ []) ++ before_message xs ≡ body ++ s ∷ before_message xs =
              append_assoc body (s ∷ []) (before_message xs) in
              rw (not_h, not_t, no_group) (ap (λ l. is_block (u ∷ l) && list_all is_block (blocks xs)) (sym joined)
              ∙ more u (body ++ s ∷ []) is (plain_more body s none plain))
        ]
      ]
    ]

done_more : (s : Segment) (xs : List Segment) → BegunFollows xs → Done (s ∷ xs)
done_more s xs more u body t is none h =
    elim (cases_Bool (is_unh s)) [
      | inl unh ↦ rw (unh, whole_block u body t is none h) (more s [] unh refl)
      | inr not_h ↦ rw (not_h, unt_inside u body t s (before_message xs) h) refl
    ]

rows : (xs : List Segment) → BegunFollows xs × Done xs
rows [] = (begun_end, done_end)
rows (s ∷ xs) = let rest = rows xs in (begun_more s xs rest.0 rest.1, done_more s xs rest.0)

pub row_follows : (xs : List Segment) → is_row xs ≡ follows false xs
row_follows [] = refl
row_follows (s ∷ xs) =
    elim (cases_Bool (is_unh s)) [
      | inl unh ↦ rw unh ((rows xs).0 s [] unh refl)
      | inr not_h ↦
          let some : (length (s ∷ before_message xs) == 0) ≡ false = ne_eqb _ _ (λ e. omega arith) in
          rw (not_h, some) refl
    ]
