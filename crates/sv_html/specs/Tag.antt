-- Tags that are to be printed.
use Rattle.sv_tokens.specs.Token.{Element}
use Rattle.sv_html.specs.declared.tags.Tag.{Tag}

-- the element of a tag
abbrev pub element_of : Tag → Element
element_of tag = record { name = tag.name.now; attributes = tag.attributes.now; typed = tag.typed.now }
