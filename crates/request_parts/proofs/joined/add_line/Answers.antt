use Rattle.std.proofs.Common.{set, sym, ap, ◌∙◌, arith}
use Rattle.request_parts.specs.JoinedHeaders.{joined_to}
use Rattle.request_parts.proofs.Places.{at_keys, joined_there, keys_stay, names_stay, new_there}
use Rattle.request_parts.proofs.joined.add_line.Goals as goal

pub returns-in_ok-join-clause-headers : goal.returns-in_ok-join-clause-headers
returns-in_ok-join-clause-headers c =
    let at = at_keys c.args.names.now.keys c.args.headers.now.items c.in_ok-name.name.items c.args.line.name c.in_ok-place.place c.requires (c.in_ok-name.ensures.items ∙ c.bytes.ensures) c.in_ok-place.ensures.index in
    ap (set c.args.headers.now.items c.in_ok-place.place) (c.in_ok-join.ensures ∙ ap (λ header. joined_to header c.args.line) c.index_mut.ensures.value)
    ∙ joined_there c.args.headers.now.items c.args.line c.index_mut.result.now c.in_ok-place.place at (omega arith)

pub returns-in_ok-join-clause-names : goal.returns-in_ok-join-clause-names
returns-in_ok-join-clause-names c =
    keys_stay c.args.names.now.keys _ c.insert_full.new.self.keys c.args.headers.now.items c.in_ok-name.name.items c.in_ok-place.place c.requires c.in_ok-place.ensures.index (omega arith) c.in_ok-place.ensures.keys
    ∙ sym (names_stay c.args.headers.now.items c.in_ok-place.place c.join.new.header c.index_mut.result.now
    (ap (λ header. header.name) (c.in_ok-join.ensures ∙ ap (λ header. joined_to header c.args.line) c.index_mut.ensures.value)) (omega arith))

pub returns-in_ok-push-clause-headers : goal.returns-in_ok-push-clause-headers
returns-in_ok-push-clause-headers c =
    let at = at_keys c.args.names.now.keys c.args.headers.now.items c.in_ok-name.name.items c.args.line.name c.in_ok-place.place c.requires (c.in_ok-name.ensures.items ∙ c.bytes.ensures) c.in_ok-place.ensures.index in
    c.in_ok-push.ensures.items ∙ new_there c.args.headers.now.items c.args.line (omega arith)
