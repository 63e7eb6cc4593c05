-- The files of a program are compiled one behind the other: its functions are those of the pieces of each file.
use Rattle.std.proofs.Common.{◌≡◌, ℕ, List, [], ◌∷◌, ◌++◌, append-nil, append_assoc, map, refl, sym, ap, subst, ◌∙◌}
use Rattle.std.specs.List.{flat_map}
use Rattle.sv_ast.specs.Files.{statements_of}
use Rattle.sv_ast.specs.declared.files.Bundle.{Bundle}
use Rattle.sv_ast.specs.declared.files.FileTree.{FileTree}
use Rattle.sv_ast.specs.declared.files.FileTree.TheVariants as tree
use Rattle.sv_ast.specs.declared.files.SourceFile.{SourceFile}
use Rattle.sv_ast.specs.declared.names.Ref.{Ref}
use Rattle.sv_ast.specs.declared.script_tree.Expr.{Expr}
use Rattle.sv_ast.specs.declared.script_tree.Stmt.{Stmt}
use Rattle.sv_check.specs.declared.checked.CheckedComponent.{CheckedComponent}
use Rattle.sv_code.proofs.Each.{each_append, each_mono}
use Rattle.sv_code.specs.Names.{Each}
use Rattle.sv_code.specs.Parts.{of_file, of_tag, of_handler}
use Rattle.sv_code.specs.Parts as parts
use Rattle.sv_code.specs.declared.functions.CodeStmt.{CodeStmt}
use Rattle.sv_code.specs.declared.parts.Part.{Part as AnyPart}
use Rattle.sv_code.specs.declared.program.FileCode.{FileCode}
use Rattle.sv_code.specs.declared.program.Program.{Program}
use Rattle.sv_code.specs.declared.program.ProgramFile.{ProgramFile}
use Rattle.sv_code.specs.declared.tags.Handler.{Handler}
use Rattle.sv_code.specs.declared.tags.Tag.{Tag}
use Rattle.sv_compile.proofs.Topmost.{top_of}
use Rattle.sv_compile.specs.Compile.{around, component, module_code, tree_code, file, files_code, first_tables, program}
use Rattle.sv_fragments.specs.Frags.{fragments}
use Rattle.sv_fragments.specs.declared.around.Tables.{Tables}
use Rattle.sv_lower.specs.Lower.{of_stmts}
use Rattle.sv_lower.specs.Tops.{Tops}
use Rattle.sv_source.proofs.Meant.{scripts_same, parts_same}
use Rattle.sv_meaning.specs.Parts.{part_value}
use Rattle.sv_source.specs.Laws.{part_told, script_code, SameScript}
use Rattle.sv_source.specs.Open.{AreOfTop}
use Rattle.sv_source.specs.Programs.{Piece, Script, Part, IsProper, codes, functions}
use Rattle.sv_source.specs.Tops.{part_means}
use Rattle.sv_meant.specs.Meant.{script_of, ScriptStands, PartIs, PartStands, OneByOne, FileParts, AllStand, MeansItsSource}
use Rattle.sv_meant.specs.Pieces.{expressions, tops_of, written, file_pieces, pieces}
use Rattle.sv_meant.specs.Spots as spots
use Rattle.sv_meant.specs.Spots.{Spot, Spread, none}
use Rattle.sv_meant.proofs.Adding.{of_frags}
use Rattle.sv_meant.proofs.Made.{IsMade, Placed, Sound, Grown, Made, one_more, grown_none, grown_on}
use Rattle.sv_meant.proofs.Spreading.{spread_grows}
use Rattle.sv_meant.proofs.Trees.{fragments_add}

-- ---- a file

tops_own : (bundle : Bundle) (t : FileTree) (told : CheckedComponent) → AreOfTop (tops_of bundle t told)
tops_own bundle (tree.Component c) told = (top_of bundle.names bundle.files told.scopes.cells c.script.stmts).no_local
tops_own bundle (tree.Module m) told = (top_of bundle.names bundle.files [] m.script.stmts).no_local

-- a file behind some pieces and tables: the functions of its pieces were added, and of these its parts are made, also those of its tags and handlers
record FileMade (before : List Piece) (top : Tops) (stmts : List Stmt) (written : List Piece) (t : Tables) (made : FileCode × Tables) : Type 0 where
  script : script_of made.0 ≡ script_code before top stmts
  sound : Sound before top (Script top stmts ∷ written) made.1
  grown : Grown before top (Script top stmts ∷ written) t made.1
  parts : Each (Placed before top (Script top stmts ∷ written)) (of_file made.0)
  in_order : List AnyPart
  spread : Spread made.1.tags made.1.handlers (spots.of_file made.0) in_order
  one_by_one : OneByOne IsMade (before ++ Script top stmts ∷ []) written in_order

-- its script comes first
script_first : (before : List Piece) (t : Tables) → t.functions ≡ codes before → (top : Tops) → AreOfTop top → (stmts : List Stmt)
    → Sound before top (Script top stmts ∷ []) (record t { functions = (of_stmts stmts top [] t.functions).1 })
script_first before t is top own stmts = one_more before top [] (Script top stmts) t own (record { proper = tt; functions = is ∙ ap codes (sym (append-nil before)) })

file_made : (bundle : Bundle) (f : FileTree) (told : CheckedComponent) (before : List Piece) (t : Tables) → t.functions ≡ codes before
    → FileMade before (tops_of bundle f told) (statements_of f) (written bundle f told) t (tree_code bundle f told t)
unfolding component module_code
file_made bundle (tree.Component c) told before t is =
    let top : Tops = tops_of bundle (tree.Component c) told in
    let stmts : List Stmt = c.script.stmts in
    let own : AreOfTop top = tops_own bundle (tree.Component c) told in
    let s : Tables = record t { functions = (of_stmts stmts top [] t.functions).1 } in
    let made = fragments c.nodes (around bundle.files stmts told top) [] s in
    let m : Made before top of_frags (Script top stmts ∷ []) (expressions c.nodes top []) s made =
    fragments_add before (around bundle.files stmts told top) own c.nodes [] tt (Script top stmts ∷ []) s (script_first before t is top own stmts) in
    let all : List Piece = Script top stmts ∷ expressions c.nodes top [] in
    record {
      script = ap (λ fs. (of_stmts stmts top [] fs).0) is;
      sound = subst (λ z. Sound before top z made.1) m.is m.sound;
      grown = grown_on before top all t s made.1 refl refl (subst (λ z. Grown before top z s made.1) m.is m.grown);
      parts = subst (λ z. Each (Placed before top z) (parts.of_frags made.0)) m.is m.parts;
      in_order = m.in_order;
      spread = m.spread;
      one_by_one = m.one_by_one;
    }
file_made bundle (tree.Module m) told before t is =
    let top : Tops = tops_of bundle (tree.Module m) told in
    let s : Tables = record t { functions = (of_stmts m.script.stmts top [] t.functions).1 } in
    record {
      script = ap (λ fs. (of_stmts m.script.stmts top [] fs).0) is;
      sound = script_first before t is top (tops_own bundle (tree.Module m) told) m.script.stmts;
      grown = grown_none before top (Script top m.script.stmts ∷ []) t s refl refl;
      parts = tt;
      in_order = [];
      spread = none;
      one_by_one = tt;
    }

-- ---- what stands in a program of some pieces

module _ (p : Program) (whole : List Piece) (proper : Each IsProper whole) (is : p.functions ≡ codes whole) where
  script_stands : (before : List Piece) (top : Tops) (stmts : List Stmt) (after : List Piece) → whole ≡ before ++ Script top stmts ∷ after → (code : List CodeStmt) → code ≡ script_code before top stmts → ScriptStands p whole before top stmts code
  script_stands before top stmts after e code h = record {
    code_is = h;
    means = λ owner. subst (λ (z : List Piece). SameScript before p z top stmts owner) (sym e)
        (scripts_same before after top stmts (subst (Each IsProper) e proper) p (is ∙ ap codes e) owner);
  }

  part_is : (before : List Piece) (top : Tops) (locals : List Ref) (e : Expr) (after : List Piece) → whole ≡ before ++ Part top locals e ∷ after → (part : AnyPart) → IsMade before top locals e part → PartIs p whole before top locals e part
  part_is before top locals e after at part h = record {
    span = h.span;
    code_is = h.code_is;
    arrows = h.arrows;
    means = λ v o. subst (λ (z : List Piece). part_value p v part ≡ part_means (functions z) p v part.arrows (part_told before top locals e)) (sym at)
        (parts_same before after top locals e (subst (Each IsProper) at proper) p (is ∙ ap codes at) v part h.code_is o);
  }

  part_stands : (before : List Piece) (top : Tops) (own after : List Piece) → whole ≡ before ++ (own ++ after) → (part : AnyPart) → Placed before top own part → PartStands p whole before top own part
  part_stands before top own after e part h =
      let piece : Piece = Part top h.locals h.expression in
      let at : whole ≡ (before ++ h.front) ++ piece ∷ (h.back ++ after) =
      e ∙ ap (λ z. before ++ (z ++ after)) h.place ∙ ap (λ z. before ++ z) (append_assoc h.front (piece ∷ h.back) after) ∙ sym (append_assoc before h.front (piece ∷ (h.back ++ after))) in
      record { front = h.front; back = h.back; locals = h.locals; expression = h.expression; place = h.place; is = part_is (before ++ h.front) top h.locals h.expression (h.back ++ after) at part h.is }

  parts_stand : (before : List Piece) (top : Tops) (own after : List Piece) → whole ≡ before ++ (own ++ after) → (list : List AnyPart) → Each (Placed before top own) list → Each (PartStands p whole before top own) list
  parts_stand before top own after e list h = each_mono (Placed before top own) (PartStands p whole before top own) (part_stands before top own after e) list h

  all_parts : {A : Type 0} (of : A → List AnyPart) (before : List Piece) (top : Tops) (own after : List Piece) → whole ≡ before ++ (own ++ after) → (list : List A) → Each (λ x. Each (Placed before top own) (of x)) list → Each (λ x. Each (PartStands p whole before top own) (of x)) list
  all_parts of before top own after e list h = each_mono (λ x. Each (Placed before top own) (of x)) (λ x. Each (PartStands p whole before top own) (of x)) (λ x k. parts_stand before top own after e (of x) k) list h

  each_is : (before written after : List Piece) (list : List AnyPart) → whole ≡ before ++ (written ++ after) → OneByOne IsMade before written list → OneByOne (PartIs p whole) before written list
  each_is before [] after [] e h = tt
  each_is before (Part top locals x ∷ written) after (part ∷ list) e h = (
    part_is before top locals x (written ++ after) e part h.0,
    each_is (before ++ Part top locals x ∷ []) written after list (e ∙ sym (append_assoc before (Part top locals x ∷ []) (written ++ after))) h.1,
  )
  each_is before [] after (part ∷ list) e h = absurd h
  each_is before (Part top locals x ∷ written) after [] e h = absurd h
  each_is before (Script top stmts ∷ written) after [] e h = absurd h
  each_is before (Script top stmts ∷ written) after (part ∷ list) e h = absurd h

-- ---- all files

-- some files behind some pieces and tables
record FilesMade (bundle : Bundle) (before : List Piece) (sources : List SourceFile) (all : List CheckedComponent) (t : Tables) (made : List ProgramFile × Tables) : Type 0 where
  files : List FileParts
  codes_are : made.0 ≡ map (λ f. f.code) files
  tags_are : made.1.tags ≡ t.tags ++ flat_map (λ f. f.tags) files
  handlers_are : made.1.handlers ≡ t.handlers ++ flat_map (λ f. f.handlers) files
  proper : Each IsProper (pieces bundle sources all)
  functions : made.1.functions ≡ codes (before ++ pieces bundle sources all)
  stand : (p : Program) (whole : List Piece) → Each IsProper whole → p.functions ≡ codes whole → whole ≡ before ++ pieces bundle sources all → p.tags ≡ made.1.tags → p.handlers ≡ made.1.handlers → AllStand bundle p whole before sources all files

none_made : (bundle : Bundle) (before : List Piece) (sources : List SourceFile) (all : List CheckedComponent) (t : Tables) → t.functions ≡ codes before → pieces bundle sources all ≡ []
    → ((p : Program) (whole : List Piece) → AllStand bundle p whole before sources all []) → FilesMade bundle before sources all t ([], t)
none_made bundle before sources all t is empty h = record {
  files = [];
  codes_are = refl;
  tags_are = sym (append-nil t.tags);
  handlers_are = sym (append-nil t.handlers);
  proper = subst (Each IsProper) (sym empty) tt;
  functions = is ∙ ap codes (sym (ap (λ z. before ++ z) empty ∙ append-nil before));
  stand = λ p whole proper functions place tags handlers. h p whole;
}

-- parts that are spread in the tables behind a file are so in those of the program
spread_in : (t : Tables) (tags : List Tag) (handlers : List Handler) (p : Program) → p.tags ≡ t.tags ++ tags → p.handlers ≡ t.handlers ++ handlers → (list : List Spot) (parts : List AnyPart) → Spread t.tags t.handlers list parts → Spread p.tags p.handlers list parts
spread_in t tags handlers p e k list parts h =
    subst (λ z. Spread z p.handlers list parts) (sym e) (subst (λ z. Spread (t.tags ++ tags) z list parts) (sym k) (spread_grows t.tags tags t.handlers handlers list parts h))

files_made : (bundle : Bundle) (sources : List SourceFile) (all : List CheckedComponent) (before : List Piece) (t : Tables) → t.functions ≡ codes before → FilesMade bundle before sources all t (files_code bundle sources all t)
files_made bundle [] all before t is = none_made bundle before [] all t is refl (λ p whole. refl)
files_made bundle (source ∷ sources) [] before t is = none_made bundle before (source ∷ sources) [] t is refl (λ p whole. refl)
files_made bundle (source ∷ sources) (told ∷ all) before t is =
    let top : Tops = tops_of bundle source.tree told in
    let own : List Piece = file_pieces bundle source.tree told in
    let rest : List Piece = pieces bundle sources all in
    let made = file bundle source told t in
    let m : FileMade before top (statements_of source.tree) (written bundle source.tree told) t (made.0.code, made.1) = file_made bundle source.tree told before t is in
    let n : FilesMade bundle (before ++ own) sources all made.1 (files_code bundle sources all made.1) = files_made bundle sources all (before ++ own) made.1 m.sound.functions in
    let f : FileParts = record { code = made.0; tags = m.grown.new_tags; handlers = m.grown.new_handlers } in
    let both : (before ++ own) ++ rest ≡ before ++ (own ++ rest) = append_assoc before own rest in
    record {
      files = f ∷ n.files;
      codes_are = ap (λ z. made.0 ∷ z) n.codes_are;
      tags_are = n.tags_are ∙ ap (λ z. z ++ flat_map (λ x. x.tags) n.files) m.grown.tags_are ∙ append_assoc t.tags m.grown.new_tags (flat_map (λ x. x.tags) n.files);
      handlers_are = n.handlers_are ∙ ap (λ z. z ++ flat_map (λ x. x.handlers) n.files) m.grown.handlers_are ∙ append_assoc t.handlers m.grown.new_handlers (flat_map (λ x. x.handlers) n.files);
      proper = each_append IsProper own rest m.sound.proper n.proper;
      functions = n.functions ∙ ap codes both;
      stand = λ p whole proper functions place tags handlers.
          let script : Piece = Script top (statements_of source.tree) in
          let more : List Piece = written bundle source.tree told in (
            record {
              script = script_stands p whole proper functions before top (statements_of source.tree) (more ++ rest) place (script_of made.0.code) m.script;
              parts = parts_stand p whole proper functions before top own rest place (of_file made.0.code) m.parts;
              tags = all_parts p whole proper functions of_tag before top own rest place f.tags m.grown.tags;
              handlers = all_parts p whole proper functions of_handler before top own rest place f.handlers m.grown.handlers;
              in_order = m.in_order;
              spread = spread_in made.1 (flat_map (λ x. x.tags) n.files) (flat_map (λ x. x.handlers) n.files) p (tags ∙ n.tags_are) (handlers ∙ n.handlers_are) (spots.of_file made.0.code) m.in_order m.spread;
              one_by_one = each_is p whole proper functions (before ++ script ∷ []) more rest m.in_order (place ∙ sym (append_assoc before (script ∷ []) (more ++ rest))) m.one_by_one;
            },
            n.stand p whole proper functions (place ∙ sym both) tags handlers,
          );
    }

-- ---- programs

pub compiled_means : (bundle : Bundle) (all : List CheckedComponent) (modules : List ℕ) → MeansItsSource bundle all (program bundle all modules)
compiled_means bundle all modules =
    let made = files_code bundle bundle.files all first_tables in
    let m : FilesMade bundle [] bundle.files all first_tables made = files_made bundle bundle.files all [] first_tables refl in
    record {
      proper = m.proper;
      functions = m.functions;
      files = m.files;
      codes_are = m.codes_are;
      tags_are = m.tags_are;
      handlers_are = m.handlers_are;
      stand = m.stand (program bundle all modules) (pieces bundle bundle.files all) m.proper m.functions refl refl refl;
    }
