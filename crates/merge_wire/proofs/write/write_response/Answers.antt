-- The pieces are those of the response.
use Rattle.std.proofs.Common.{◌≡◌, ◌∙◌, ℕ, List, length, codes, decimal, ap, subst}
use Rattle.std.specs.Prelude.{OnOk, OnErr}
use Rattle.std.specs.Io.KnownBytes.{Appends}
use Rattle.merge_ports.specs.Parts.{AppendsFront}
use Rattle.merge_wire.specs.Written.{status_text, allow_line}
use Rattle.merge_wire.proofs.PieceLemmas.{eight}
use Rattle.merge_wire.proofs.write.write_response.Goals as goal

pub returns-clause-whole : goal.returns-clause-whole
returns-clause-whole g c =
    subst (λ (l : List ℕ). OnOk c.send.result (Appends (g.S.Sink.written c.args.sink.now) (g.S.Sink.written c.send.new.sink) l))
    (eight _ _ _ _ _ _ _ _ (codes "HTTP/1.1 ") (status_text c.args.message.now.status) (codes "\r\nContent-Type: application/json\r\nContent-Length: ") (decimal (length c.args.message.now.body))
    (codes "\r\nConnection: close\r\n") (allow_line c.args.message.now.status) (codes "\r\n") c.args.message.now.body
    c.as_slice.ensures c.status_text.ensures c.as_slice-2.ensures
    (c.as_bytes.ensures.value ∙ c.format-length.ensures.text ∙ ap (λ (l : List ℕ). decimal (length l)) c.as_slice-body.ensures)
    c.as_slice-3.ensures c.allow.ensures c.as_slice-4.ensures c.as_slice-body.ensures)
    c.send.ensures.whole

pub returns-clause-front : goal.returns-clause-front
returns-clause-front g c =
    subst (λ (l : List ℕ). OnErr c.send.result (AppendsFront (g.S.Sink.written c.args.sink.now) (g.S.Sink.written c.send.new.sink) l))
    (eight _ _ _ _ _ _ _ _ (codes "HTTP/1.1 ") (status_text c.args.message.now.status) (codes "\r\nContent-Type: application/json\r\nContent-Length: ") (decimal (length c.args.message.now.body))
    (codes "\r\nConnection: close\r\n") (allow_line c.args.message.now.status) (codes "\r\n") c.args.message.now.body
    c.as_slice.ensures c.status_text.ensures c.as_slice-2.ensures
    (c.as_bytes.ensures.value ∙ c.format-length.ensures.text ∙ ap (λ (l : List ℕ). decimal (length l)) c.as_slice-body.ensures)
    c.as_slice-3.ensures c.allow.ensures c.as_slice-4.ensures c.as_slice-body.ensures)
    c.send.ensures.front
