use Rattle.std.proofs.Common.{◌≡◌, ◌++◌, drop}
use Rattle.std.specs.String.{string_bytes}
use Rattle.std.specs.List.{flat_map}
use Rattle.sv_listing.specs.Listing.{file_text}
use Rattle.sv_listing.proofs.files.push_files.Given as goal

abbrev pub invariant-loop-file : goal.invariant-loop-file
invariant-loop-file l =
    string_bytes l.fn.text ++ flat_map (file_text l.known.names.now l.known.insides.now) l.files ≡ string_bytes l.text ++ flat_map (file_text l.known.names.now l.known.insides.now) (drop l.file-index l.files)
