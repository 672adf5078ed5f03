-- A request to an address is one that can be written.
use Rattle.std.proofs.Common.{◌∙◌, ap, inl}
use Rattle.merge_json.specs.Requests.{path_of}
use Rattle.merge_agent.proofs.Paths.{writable-message}
use Rattle.merge_agent.proofs.message.request_bytes.Goals as goal

pub write_message-requires : goal.write_message-requires
write_message-requires c =
    inl (writable-message c.in_ok-message.message c.args.request.now c.in_ok-path.path c.in_ok-host.host c.in_ok-body.body c.args.address.now c.in_ok-message.ensures
    (c.in_ok-path.ensures ∙ c.path_of.ensures ∙ ap path_of c.kind.ensures) (c.in_ok-host.ensures ∙ c.as_str.ensures.text) c.requires.visible)
