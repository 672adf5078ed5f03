-- The pieces are those of the request.
use Rattle.std.proofs.Common.{◌≡◌, ◌∙◌, ℕ, List, length, codes, decimal, ap, subst}
use Rattle.std.specs.Prelude.{OnOk, OnErr}
use Rattle.std.specs.Io.KnownBytes.{Appends}
use Rattle.merge_ports.specs.Parts.{AppendsFront}
use Rattle.merge_wire.proofs.PieceLemmas.{eight}
use Rattle.merge_wire.proofs.write.write_request.Goals as goal

pub returns-clause-whole : goal.returns-clause-whole
returns-clause-whole g c =
    subst (λ (l : List ℕ). OnOk c.send.result (Appends (g.S.Sink.written c.args.sink.now) (g.S.Sink.written c.send.new.sink) l))
    (eight _ _ _ _ _ _ _ _ (codes "POST ") c.args.message.now.path (codes " HTTP/1.1\r\nHost: ") c.args.message.now.host
    (codes "\r\nContent-Type: application/json\r\nContent-Length: ") (decimal (length c.args.message.now.body)) (codes "\r\nConnection: close\r\n\r\n") c.args.message.now.body
    c.as_slice.ensures (c.as_bytes.ensures.value ∙ c.as_str.ensures.text) c.as_slice-2.ensures (c.as_bytes-2.ensures.value ∙ c.as_str-2.ensures.text)
    c.as_slice-3.ensures (c.as_bytes-3.ensures.value ∙ c.format-length.ensures.text ∙ ap (λ (l : List ℕ). decimal (length l)) c.as_slice-body.ensures) c.as_slice-4.ensures c.as_slice-body.ensures)
    c.send.ensures.whole

pub returns-clause-front : goal.returns-clause-front
returns-clause-front g c =
    subst (λ (l : List ℕ). OnErr c.send.result (AppendsFront (g.S.Sink.written c.args.sink.now) (g.S.Sink.written c.send.new.sink) l))
    (eight _ _ _ _ _ _ _ _ (codes "POST ") c.args.message.now.path (codes " HTTP/1.1\r\nHost: ") c.args.message.now.host
    (codes "\r\nContent-Type: application/json\r\nContent-Length: ") (decimal (length c.args.message.now.body)) (codes "\r\nConnection: close\r\n\r\n") c.args.message.now.body
    c.as_slice.ensures (c.as_bytes.ensures.value ∙ c.as_str.ensures.text) c.as_slice-2.ensures (c.as_bytes-2.ensures.value ∙ c.as_str-2.ensures.text)
    c.as_slice-3.ensures (c.as_bytes-3.ensures.value ∙ c.format-length.ensures.text ∙ ap (λ (l : List ℕ). decimal (length l)) c.as_slice-body.ensures) c.as_slice-4.ensures c.as_slice-body.ensures)
    c.send.ensures.front
