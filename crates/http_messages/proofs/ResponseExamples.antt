-- Responses, computed to the byte.
use Rattle.std.proofs.Common.{◌≡◌, [], ◌++◌, codes, refl}
use Rattle.std.specs.Fmt.{digits}
use Rattle.http_messages.specs.Response.{head_text, http_text, phrase_of}

-- the list of a mailbox with one order
mailbox : http_text 200 (codes "             1 ORDERS 128576\nend\n")
    ≡ codes "HTTP/1.1 200 OK\r\nContent-Type: application/octet-stream\r\nContent-Length: 33\r\nConnection: close\r\n\r\n"
    ++ codes "             1 ORDERS 128576\nend\n"
unfolding head_text phrase_of digits
mailbox = refl

no_body : http_text 405 []
    ≡ codes "HTTP/1.1 405 Method Not Allowed\r\nContent-Type: application/octet-stream\r\nContent-Length: 0\r\n"
    ++ codes "Connection: close\r\n\r\n"
unfolding head_text phrase_of digits
no_body = refl

no_phrase : http_text 599 (codes "x")
    ≡ codes "HTTP/1.1 599 \r\nContent-Type: application/octet-stream\r\nContent-Length: 1\r\nConnection: close\r\n\r\nx"
unfolding head_text phrase_of digits
no_phrase = refl

-- the phrases of the statuses that a hub answers
ok : phrase_of 200 ≡ codes "OK"
unfolding phrase_of
ok = refl

bad_request : phrase_of 400 ≡ codes "Bad Request"
unfolding phrase_of
bad_request = refl

forbidden : phrase_of 403 ≡ codes "Forbidden"
unfolding phrase_of
forbidden = refl

not_found : phrase_of 404 ≡ codes "Not Found"
unfolding phrase_of
not_found = refl

method_not_allowed : phrase_of 405 ≡ codes "Method Not Allowed"
unfolding phrase_of
method_not_allowed = refl

length_required : phrase_of 411 ≡ codes "Length Required"
unfolding phrase_of
length_required = refl

payload_too_large : phrase_of 413 ≡ codes "Payload Too Large"
unfolding phrase_of
payload_too_large = refl

service_unavailable : phrase_of 503 ≡ codes "Service Unavailable"
unfolding phrase_of
service_unavailable = refl
