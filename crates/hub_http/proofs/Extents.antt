-- Proves whether a request was read to its end.
use Rattle.std.proofs.Common.{◌≡◌, ℕ, ◌+◌, ◌-◌, ◌<◌, Bool, true, false, not, List, [], ◌∷◌, ◌++◌, length, Option, Some, None}
use Rattle.std.proofs.Common.{Result, Ok, Err, codes, refl, sym, ap, subst, ◌∙◌, append_assoc, arith}
use Rattle.std.specs.Prelude.{◌↔◌, if◌then◌else◌, max, nat_lt, IfOk, IfSome}
use Rattle.std.specs.Result.{result_ok}
use Rattle.std.specs.Str.{bytes_eq}
use Rattle.std.proofs.KnownBytes.{Consumes-nil}
use Rattle.std.proofs.lemmas.Bool.{ltb-true, true≢false}
use Rattle.std.proofs.lemmas.List.{length-append}
use Rattle.std.proofs.lemmas.Option.{none-some}
use Rattle.std.proofs.lemmas.Slice.Eq.{bytes_eq-Decides}
use Rattle.http_messages.specs.Body.{TakesExactly, body_in}
use Rattle.http_messages.specs.Fields.{values_of}
use Rattle.http_messages.specs.Head.{Heading, Finds, before}
use Rattle.http_messages.proofs.Reading.{head_unique}
use Rattle.hub_parties.specs.Rows.{RegisterRows, role_of}
use Rattle.hub_parties.specs.declared.role.Role.{Role}
use Rattle.hub_http.specs.Asked.{Asked, asked_by, at_route, by_keys, by_number, by_role, is_single, key_field}
use Rattle.hub_http.specs.Asked.{posted_length, route_in, size_of, with_size}
use Rattle.hub_http.specs.Extent.{TakesBody, TellsBody, TellsEnd, body_size, has_no_body}
use Rattle.hub_http.specs.Parts.{first, second}
use Rattle.hub_http.specs.Route.{is_post, may_ask, method_of, number_at}
use Rattle.hub_http.specs.declared.refusal.Refusal.{Refusal}
use Rattle.hub_http.specs.declared.refusal.Refusal.TheVariants.{BadRequest, Method, Denied}
use Rattle.hub_http.specs.declared.route.Route.{Route}

some_same : (a b : ℕ) → Some a ≡ Some b → a ≡ b
some_same a b e = cc

-- The bytes read with the head and after it are the request's body exactly if there are as many as it has.
reached : (front : List ℕ) (known after : Option (List ℕ)) (count read : ℕ) (size : Option ℕ) (told : Bool)
    → TakesExactly known after count
    → length front + count ≡ read
    → ((told ≡ true) ↔ (size ≡ Some read))
    → TellsBody size front known after told
reached front None after count read size told takes is tells = tt
reached front (Some left) None count read size told takes is tells = absurd takes.consumed
reached front (Some left) (Some rest) count read None told takes is tells = (λ up. none-some read (tells.0 up), λ body. absurd body)
reached front (Some left) (Some rest) count read (Some size) told takes is tells =
    let all : front ++ left ≡ (front ++ takes.bytes) ++ rest =
    ap (λ (l : List ℕ). front ++ l) takes.consumed ∙ sym (append_assoc front takes.bytes rest) in
    let there = length-append front takes.bytes in
    let counted = takes.counted in (
      λ up.
          let same : size ≡ read = some_same size read (tells.0 up) in
          record { bytes = front ++ takes.bytes; consumed = all; counted = omega (arith, there, counted, is, same) },
      λ body.
          let long = ap length all ∙ length-append (front ++ takes.bytes) rest in
          let whole = ap length body.consumed ∙ length-append body.bytes rest in
          let other = body.counted in
          tells.1 (ap Some (omega (arith, there, counted, is, long, whole, other))),
    )

-- nothing was read after the bytes read with the head
pub reached_at_once : (front : List ℕ) (known after : Option (List ℕ)) (size : Option ℕ) (told : Bool) → after ≡ known
    → ((told ≡ true) ↔ (size ≡ Some (length front)))
    → TellsBody size front known after told
reached_at_once front known after size told same tells =
    let none : TakesExactly known known 0 = record { bytes = []; consumed = Consumes-nil known; counted = refl } in
    reached front known after 0 (length front) size told
    (subst (λ (a : Option (List ℕ)). TakesExactly known a 0) (sym same) none) (omega arith) tells

-- the whole body was read
pub reached_whole : (front : List ℕ) (known after : Option (List ℕ)) (whole : ℕ) (size : Option ℕ) (told : Bool)
    → TakesExactly known after (whole - length front)
    → ((told ≡ true) ↔ (size ≡ Some (max (length front) whole)))
    → TellsBody size front known after told
reached_whole front known after whole size told takes tells =
    reached front known after (whole - length front) (max (length front) whole) size told takes (omega arith) tells

below : (b : Bool) (xs : List ℕ) → None ≡ (if b then None else Some xs) → b ≡ true
below true xs e = refl
below false xs e = absurd (none-some xs e)

-- a body that breaks off was not read
pub reached_cut : (front : List ℕ) (known after : Option (List ℕ)) (whole : ℕ) (size : Option ℕ) (told : Bool) → told ≡ false
    → IfSome size (λ n. n ≡ whole)
    → IfSome known (λ left. body_in whole (front ++ left) ≡ None)
    → TellsBody size front known after told
reached_cut front None after whole size told not_so is cut = tt
reached_cut front (Some left) after whole None told not_so is cut =
    (λ up. absurd (true≢false (sym up ∙ not_so)), λ body. absurd body)
reached_cut front (Some left) None whole (Some size) told not_so is cut =
    (λ up. absurd (true≢false (sym up ∙ not_so)), λ body. absurd body.consumed)
reached_cut front (Some left) (Some rest) whole (Some size) told not_so is cut =
    let short : length (front ++ left) < whole =
    ltb-true (length (front ++ left)) whole (below (nat_lt (length (front ++ left)) whole) _ (sym cut)) in (
      λ up. absurd (true≢false (sym up ∙ not_so)),
      λ body.
          let all = ap length body.consumed ∙ length-append body.bytes rest in
          let counted = body.counted in
          absurd (omega (arith, short, all, counted, is)),
    )

-- the whole body was read, or it breaks off
pub reached_if : (front : List ℕ) (known after : Option (List ℕ)) (whole : ℕ) (size : Option ℕ) (found : Option (List ℕ)) (told : Bool)
    → IfSome found (λ _. TakesExactly known after (whole - length front))
    → IfSome known (λ left. found ≡ body_in whole (front ++ left))
    → IfSome size (λ n. n ≡ whole)
    → IfSome found (λ _. (told ≡ true) ↔ (size ≡ Some (max (length front) whole)))
    → (found ≡ None → told ≡ false)
    → TellsBody size front known after told
reached_if front known after whole size (Some body) told takes is sized tells cut =
    reached_whole front known after whole size told takes tells
reached_if front None after whole size None told takes is sized tells cut = tt
reached_if front (Some left) after whole size None told takes is sized tells cut =
    reached_cut front (Some left) after whole size told (cut refl) sized (sym is)

-- without a head
pub ends_none : (old new : Option (List ℕ)) (told : Bool) → told ≡ false → Finds old new None → TellsEnd old new told
ends_none None new told not_so found = tt
ends_none (Some known) None told not_so found = absurd found
ends_none (Some known) (Some left) told not_so found =
    (λ up. absurd (true≢false (sym up ∙ not_so)), λ end. absurd (found end.head_is.0 end.head.rest end.head_is.1))

-- with a head, and the bytes after it
ends_some : (old new after : Option (List ℕ)) (head : Heading) (told : Bool) → Finds old new (Some head)
    → TellsBody (body_size head) head.rest new after told
    → TellsEnd old after told
ends_some None new after head told found tells = tt
ends_some (Some known) None after head told found tells = absurd found
ends_some (Some known) (Some left) after head told found tells = (
  λ up. record { head = before left head; head_is = found; body = tells.0 up },
  λ end.
      let same : end.head ≡ before left head = cc (head_unique known (Some end.head) (Some (before left head)) end.head_is found) in
      tells.1 (subst (λ (h : Heading). TakesBody (body_size h) h.rest after) same end.body),
)

pub ends_with : {A E : Type 0} (told : A → Bool) (old new after : Option (List ℕ)) (head : Heading) (r : Result A E)
    → Finds old new (Some head)
    → IfOk r (λ done. TellsBody (body_size head) head.rest new after (told done))
    → IfOk r (λ done. TellsEnd old after (told done))
ends_with told old new after head (Ok done) found tells = ends_some old new after head (told done) found tells
ends_with told old new after head (Err fault) found tells = tt

-- the size that a head asks for is that of the body, if it is known
abbrev pub Sized : Heading → Result Asked Refusal → Type 0
Sized head r = IfOk r (λ asked. IfSome (body_size head) (λ size. size ≡ asked.size))

abbrev SizedAs : Heading → Result ℕ Refusal → Type 0
SizedAs head r = IfOk r (λ whole. IfSome (body_size head) (λ size. size ≡ whole))

same_ok : (r : Result ℕ Refusal) → IfOk r (λ whole. IfSome (result_ok r) (λ size. size ≡ whole))
same_ok (Ok whole) = refl
same_ok (Err refusal) = tt

zero_if : (b : Bool) → IfSome (if b then Some 0 else None) (λ (size : ℕ). size ≡ 0)
zero_if true = refl
zero_if false = tt

by_method : (head : Heading) (post : Bool) → bytes_eq head.method (if post then codes "POST" else codes "GET") ≡ true
    → SizedAs head (if post then posted_length head.fields else Ok 0)
by_method head true e = rw e (same_ok (posted_length head.fields))
by_method head false e =
    let other : bytes_eq head.method (codes "POST") ≡ false =
    ap (λ (m : List ℕ). bytes_eq m (codes "POST")) ((bytes_eq-Decides head.method (codes "GET")).0 e) in
    rw other (zero_if (has_no_body head.fields))

sized_if : (head : Heading) (test : Bool) (r s : Result Asked Refusal) → Sized head r → Sized head s
    → Sized head (if test then r else s)
sized_if head true r s first second = first
sized_if head false r s first second = second

with_sized : (head : Heading) (route : Route) (gln part : List ℕ) (number : ℕ) (key : List ℕ) (size : Result ℕ Refusal)
    → SizedAs head size
    → Sized head (with_size route gln part number key size)
with_sized head route gln part number key (Ok size) is = is
with_sized head route gln part number key (Err refusal) is = tt

module _ (register : RegisterRows) (head : Heading) (route : Route) (party part : List ℕ)
    (method : bytes_eq head.method (method_of route) ≡ true) where
  role_sized : (number : ℕ) (key : List ℕ) (role : Option Role) → Sized head (by_role head route party part number key role)
  role_sized number key None = tt
  role_sized number key (Some role) =
      sized_if head (may_ask role route) (with_size route party part number key (size_of route head.fields)) (Err Denied)
      (with_sized head route party part number key (size_of route head.fields) (by_method head (is_post route) method)) tt

  keys_sized : (number : ℕ) (keys : List (List ℕ)) → Sized head (by_keys register head route party part number keys)
  keys_sized number [] = tt
  keys_sized number (key ∷ []) = role_sized number key (role_of register party key)
  keys_sized number (key ∷ other ∷ keys) = tt

module _ (register : RegisterRows) (head : Heading) (route : Route) (party part : List ℕ) where
  method_sized : (is : Bool) (number : ℕ) → bytes_eq head.method (method_of route) ≡ is
      → Sized head (if not is then Err Method else by_keys register head route party part number (values_of key_field head.fields))
  method_sized false number e = tt
  method_sized true number e = keys_sized register head route party part e number (values_of key_field head.fields)

  number_sized : (found : Option ℕ) → Sized head (by_number register head route party part found)
  number_sized None = tt
  number_sized (Some number) = method_sized (bytes_eq head.method (method_of route)) number refl

at_sized : (register : RegisterRows) (head : Heading) (found : Option (Route × List (List ℕ)))
    → Sized head (at_route register head found)
at_sized register head None = tt
at_sized register head (Some (route, parts)) =
    number_sized register head route (first parts) (second parts) (number_at route (second parts))

pub asked_sized : (register : RegisterRows) (head : Heading) → Sized head (asked_by register head)
asked_sized register head =
    sized_if head (not (is_single head)) (Err BadRequest) (at_route register head (route_in head.target)) tt
    (at_sized register head (route_in head.target))
