use Rattle.std.proofs.Common.{◌≡◌, None}
use Rattle.ft_model.specs.declared.data.Key.TheVariants as key
use Rattle.ft_layout.proofs.WordLaws.{key_read, key_unread, key_is_text}
use Rattle.ft_layout.proofs.key.key_of.Goals as goal

pub returns-in_ok-string_of-in-2 : goal.returns-in_ok-string_of-in-2
returns-in_ok-string_of-in-2 c =
    let sym = c.in_ok-string_of-in-2.field-0 in
    let text = (c.string_of.ensures sym).1 c.in_ok-string_of-in-2.was in
    key_read c.args.kind c.args.payload (key.Text sym) (record { fits = text.0; kind_is = c.in-2.is; payload_is = text.1 })

pub returns-in_err-string_of-in-2 : goal.returns-in_err-string_of-in-2
returns-in_err-string_of-in-2 c =
    key_unread c.args.kind c.args.payload c.from_residual.result c.from_residual.ensures (λ k is.
    let text = key_is_text c.args.payload k is c.in-2.is in
    let found = (c.string_of.ensures text.0).0 text.1 in
    let none : c.string_of.result ≡ None = c.in_err-string_of-in-2.was in
    cc)
