-- What stands in each picture.
use Rattle.std.specs.Prelude.{ℕ, List, ◌++◌, codes}
use Rattle.picture_parts.specs.Looks.{colours_text, style_text}

-- the shapes of events
unfoldable pub shapes_text : List ℕ
shapes_text = codes "<defs>\n<path id=\"look\" d=\"M.5 2.6v.6\"/>\n<g id=\"moved\"><path d=\"M.5 2.6v.6\"/><circle cx=\".5\" cy=\"2.9\" r=\".38\"/></g>\n<circle id=\"load\" cx=\".5\" cy=\"2.9\" r=\".22\"/>\n<path id=\"store\" class=\"ink\" d=\"M.27 2.67h.46v.46h-.46z\"/>\n<path id=\"take\" class=\"ink\" d=\"M.17 3.17h.66l-.33-.55z\"/>\n<path id=\"miss\" d=\"M.17 3.17h.66l-.33-.55z\"/>\n<path id=\"free\" class=\"ink\" d=\"M.17 2.63h.66l-.33.55z\"/>\n</defs>\n<rect class=\"page\" x=\"-5\" y=\"-1\" width=\"100%\" height=\"100%\"/>\n"

abbrev pub looks_text : List ℕ
looks_text = style_text ++ colours_text ++ shapes_text
