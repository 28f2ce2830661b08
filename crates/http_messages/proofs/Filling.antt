-- Bytes of a source behind those that are there.
use Rattle.std.proofs.Common.{◌≡◌, ℕ, ◌+◌, ◌-◌, ◌≤◌, ◌<◌, List, [], ◌++◌, length, take, Option, Some, None, IfSome, ◌⊎◌}
use Rattle.std.proofs.Common.{inl, inr, take_all, sym, ap, ◌∙◌, arith, append_assoc, append-nil, length-append}
use Rattle.std.proofs.Common.{length-take, length-take-le, take_at}
use Rattle.std.proofs.lemmas.Bool.{cond_below, cond_above, cases_lt}
use Rattle.std.proofs.lemmas.List.{nil_from_length, take-append-le}
use Rattle.std.proofs.KnownBytes.{Consumes-trans, Consumes-nil}
use Rattle.std.specs.Io.KnownBytes.{Consumes, IsAtEnd}
use Rattle.edi_base.specs.Source.{TakesPiece, TakesAtMost}
use Rattle.edi_base.proofs.Taken.{takes_more}
use Rattle.http_messages.specs.Body.{body_in, Fills}

-- bytes of a source stand behind those before
pub record FollowsBefore (old new : Option (List ℕ)) (before after : List ℕ) : Type 0 where
  pub more : List ℕ
  pub consumed : Consumes old new more
  pub after_is : after ≡ before ++ more

-- nothing was read
pub follows_none : (a : Option (List ℕ)) (before : List ℕ) → FollowsBefore a a before before
follows_none a before = record { more = []; consumed = Consumes-nil a; after_is = sym (append-nil before) }

-- one more piece
pub follows_piece : (a b c : Option (List ℕ)) (before mid after : List ℕ) (room count : ℕ) → FollowsBefore a b before mid
    → TakesPiece b c mid after room count
    → FollowsBefore a c before after
follows_piece a b c before mid after room count so_far piece = record {
  more = so_far.more ++ piece.bytes;
  consumed = Consumes-trans a b c so_far.more piece.bytes so_far.consumed piece.consumed;
  after_is = piece.after_is ∙ ap (λ l. l ++ piece.bytes) so_far.after_is ∙ append_assoc before so_far.more piece.bytes;
}

-- how many were read
more_length : (a b : Option (List ℕ)) (before after : List ℕ) (so_far : FollowsBefore a b before after)
    → length after ≡ length before + length so_far.more
more_length a b before after so_far = ap length so_far.after_is ∙ length-append before so_far.more

-- no more than so many, with those that are read then
pub follows_limit : (a b c : Option (List ℕ)) (before after : List ℕ) (room limit : ℕ) → FollowsBefore a b before after
    → TakesAtMost b c room
    → length after + room ≤ length before + limit → TakesAtMost a c limit
follows_limit a b c before after room limit so_far more fits =
    takes_more a b c so_far.more room limit so_far.consumed more (omega (arith, fits, more_length a b before after so_far))

-- one more piece, no longer than its room
pub piece_limit : (a b c : Option (List ℕ)) (before mid after : List ℕ) (room count limit : ℕ) → FollowsBefore a b before mid
    → TakesPiece b c mid after room count
    → length mid + room ≤ length before + limit → TakesAtMost a c limit
piece_limit a b c before mid after room count limit so_far piece fits =
    follows_limit a b c before mid room limit so_far
    (record { front = piece.bytes; taken = piece.consumed; within = omega (arith, piece.count_is, piece.within) }) fits

-- there is no more room, or the source ended
pub follows_fills : (a b : Option (List ℕ)) (before after : List ℕ) (room : ℕ) → FollowsBefore a b before after
    → (length after < length before + room → IsAtEnd b) → Fills a b before after room
follows_fills a b before after room so_far ends = record {
  more = so_far.more;
  consumed = so_far.consumed;
  after_is = so_far.after_is;
  ends = λ short. ends (omega (arith, short, more_length a b before after so_far));
}

-- a vector that began with all of the front that has room, and was filled behind it
pub record Filled (a b : Option (List ℕ)) (front start after : List ℕ) (size end : ℕ) : Type 0 where
  pub kept : List ℕ
  pub kept_is : kept ≡ take size front
  pub begins : take (length kept) start ≡ kept
  pub size_is : length start ≡ size
  pub same_size : length after ≡ length start
  pub fills : Fills a b (take (length kept) start) (take end after) (length start - length kept)

-- what is there then is what was kept of the front, and more
after_kept : (a b : Option (List ℕ)) (front start after : List ℕ) (size end : ℕ) (f : Filled a b front start after size end)
    → take end after ≡ take size front ++ f.fills.more
after_kept a b front start after size end f = f.fills.after_is ∙ ap (λ l. l ++ f.fills.more) (f.begins ∙ f.kept_is)

-- the source ended before the body did
pub ended_before : (a b : Option (List ℕ)) (front start after : List ℕ) (size end : ℕ) → Filled a b front start after size end → end < size
    → IfSome a (λ left. None ≡ body_in size (front ++ left))
ended_before None b front start after size end f short = tt
ended_before (Some known) None front start after size end f short = absurd f.fills.consumed
ended_before (Some known) (Some left) front start after size end f short =
    let len : length (take size front) + length f.fills.more ≡ end =
    sym (length-append (take size front) f.fills.more) ∙ sym (ap length (after_kept _ _ front start after size end f))
    ∙ length-take-le end after (omega (arith, short, f.size_is, f.same_size)) in
    let kept_len : length f.kept ≡ length (take size front) = ap length f.kept_is in
    let gone : known ≡ f.fills.more =
    f.fills.consumed ∙ ap (λ l. f.fills.more ++ l) (f.fills.ends (omega (arith, len, kept_len, short, f.size_is)))
    ∙ append-nil f.fills.more in
    cond_below (length (front ++ known)) size None (Some (take size (front ++ known)))
    (omega (arith, length-append front known, ap length gone, len, length-take size front, short))

-- bytes that are as many as asked, with all of the front that has room, are the front of all bytes
is_front : (front more rest : List ℕ) (size : ℕ) → ((size < length front) ⊎ (length front ≤ size)) → length (take size front ++ more) ≡ size
    → take size front ++ more ≡ take size (front ++ (more ++ rest))
is_front front more rest size (inr within) len =
    let all : take size front ≡ front = take_all size front within in
    sym (take_at (take size front ++ more) rest size len) ∙ ap (take size) (ap (λ l. l ++ more ++ rest) all ∙ append_assoc front more rest)
is_front front more rest size (inl past) len =
    let none : more ≡ [] = nil_from_length more
    (omega (arith, len, length-append (take size front) more, length-take-le size front (omega (arith, past)))) in
    ap (λ l. take size front ++ l) none ∙ append-nil (take size front) ∙ sym
    (take-append-le size front (more ++ rest) (omega (arith, past)))

-- all of the body was read
pub ended_with : (a b : Option (List ℕ)) (front start after : List ℕ) (size end : ℕ) → Filled a b front start after size end → size ≤ end
    → IfSome a (λ left. Some after ≡ body_in size (front ++ left))
ended_with None b front start after size end f full = tt
ended_with (Some known) None front start after size end f full = absurd f.fills.consumed
ended_with (Some known) (Some left) front start after size end f full =
    let len : length after ≡ size = f.same_size ∙ f.size_is in
    let is : after ≡ take size front ++ f.fills.more =
    sym (take_all end after (omega (arith, len, full))) ∙ after_kept _ _ front start after size end f in
    let same : after ≡ take size (front ++ known) =
    is ∙ is_front front f.fills.more left size (cases_lt size (length front)) (ap length (sym is) ∙ len)
    ∙ ap (λ l. take size (front ++ l)) (sym f.fills.consumed) in
    cond_above (length (front ++ known)) size None (Some (take size (front ++ known))) (Some after)
    (omega (arith, len, ap length same, length-take size (front ++ known))) (ap Some same)
